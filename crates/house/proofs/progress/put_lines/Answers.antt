use Rattle.house.proofs.Writes.{lines}
use Rattle.std.proofs.Common.{rules}
use Rattle.house.proofs.progress.put_lines.Goals as goal

pub put_text-end-requires : goal.put_text-end-requires
put_text-end-requires c = search (lines, rules)

pub end_line-next-requires : goal.end_line-next-requires
end_line-next-requires c = search (lines, rules)

pub count_on-requires : goal.count_on-requires
count_on-requires c = search (lines, rules)

pub shape_of-out : goal.shape_of-out
shape_of-out c = search (lines, rules)

pub returns : goal.returns
returns c = search (lines, rules)
