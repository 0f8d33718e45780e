use Rattle.house.proofs.Writes.{lines}
use Rattle.std.proofs.Common.{rules}
use Rattle.house.proofs.progress.put_run.Goals as goal

pub put_entry-requires : goal.put_entry-requires
put_entry-requires c = search (lines, rules)

pub shape_of-out-then-count-eq1 : goal.shape_of-out-then-count-eq1
shape_of-out-then-count-eq1 c = search (lines, rules)

pub returns-then-count-eq1 : goal.returns-then-count-eq1
returns-then-count-eq1 c = search (lines, rules)

pub put_lines-requires : goal.put_lines-requires
put_lines-requires c = search (lines, rules)

pub shape_of-out : goal.shape_of-out
shape_of-out c = search (lines, rules)

pub returns : goal.returns
returns c = search (lines, rules)
