use Rattle.forms.proofs.Rows.{rows}
use Rattle.std.proofs.Common.{rules}
use Rattle.forms.proofs.known.put_contig.Goals as goal

pub put_known-a-requires : goal.put_known-a-requires
put_known-a-requires c = search (rows, rules)

pub put_known-b-requires : goal.put_known-b-requires
put_known-b-requires c = search (rows, rules)

pub put_known-c-requires : goal.put_known-c-requires
put_known-c-requires c = search (rows, rules)

pub put_known-requires : goal.put_known-requires
put_known-requires c = search (rows, rules)

pub shape_of-out : goal.shape_of-out
shape_of-out c = search (rows, rules)

pub returns : goal.returns
returns c = search (rows, rules)
