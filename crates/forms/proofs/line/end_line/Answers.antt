use Rattle.forms.proofs.Lines.{endings}
use Rattle.std.proofs.Common.{rules}
use Rattle.forms.proofs.line.end_line.Goals as goal

pub put_byte-next-requires : goal.put_byte-next-requires
put_byte-next-requires c = search (endings, rules)

pub put_byte-requires : goal.put_byte-requires
put_byte-requires c = search (endings, rules)

pub shape_of-out-then-cr : goal.shape_of-out-then-cr
shape_of-out-then-cr c = search (endings, rules)

pub returns-then-cr : goal.returns-then-cr
returns-then-cr c = search (endings, rules)

pub put_byte-requires-2 : goal.put_byte-requires-2
put_byte-requires-2 c = search (endings, rules)

pub shape_of-out : goal.shape_of-out
shape_of-out c = search (endings, rules)

pub returns : goal.returns
returns c = search (endings, rules)
