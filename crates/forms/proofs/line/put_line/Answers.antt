use Rattle.forms.proofs.Lines.{line_put}
use Rattle.std.proofs.Common.{rules}
use Rattle.forms.proofs.line.put_line.Goals as goal

pub put_record-end-requires : goal.put_record-end-requires
put_record-end-requires c = search (line_put, rules)

pub ends_with_cr-cr-requires : goal.ends_with_cr-cr-requires
ends_with_cr-cr-requires c = search (line_put, rules)

pub end_line-next-requires : goal.end_line-next-requires
end_line-next-requires c = search (line_put, rules)

pub shape_of-out : goal.shape_of-out
shape_of-out c = search (line_put, rules)

pub returns : goal.returns
returns c = search (line_put, rules)
