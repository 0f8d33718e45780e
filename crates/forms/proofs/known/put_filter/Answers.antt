use Rattle.forms.proofs.Rows.{rows}
use Rattle.std.proofs.Common.{rules}
use Rattle.forms.proofs.known.put_filter.Goals as goal

pub put_known-next-requires : goal.put_known-next-requires
put_known-next-requires c = search (rows, rules)

pub put_known-requires : goal.put_known-requires
put_known-requires c = search (rows, rules)

pub shape_of-out : goal.shape_of-out
shape_of-out c = search (rows, rules)

pub returns : goal.returns
returns c = search (rows, rules)
