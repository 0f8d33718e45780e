use Rattle.house.proofs.Writes.{plain_line}
use Rattle.std.proofs.Common.{rules}
use Rattle.house.proofs.progress.put_plain.Goals as goal

pub put_text-end-requires : goal.put_text-end-requires
put_text-end-requires c = search (plain_line, rules)

pub ends_with_cr-cr-requires : goal.ends_with_cr-cr-requires
ends_with_cr-cr-requires c = search (plain_line, rules)

pub end_line-next-requires : goal.end_line-next-requires
end_line-next-requires c = search (plain_line, rules)

pub note_line-requires : goal.note_line-requires
note_line-requires c = search (plain_line, rules)

pub shape_of-out : goal.shape_of-out
shape_of-out c = search (plain_line, rules)

pub returns : goal.returns
returns c = search (plain_line, rules)
