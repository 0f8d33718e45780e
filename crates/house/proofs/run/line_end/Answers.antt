use Rattle.house.proofs.Runs.{ends}
use Rattle.std.proofs.Common.{rules}
use Rattle.house.proofs.run.line_end.Goals as goal

pub returns-then-h-e : goal.returns-then-h-e
returns-then-h-e c = search (ends, rules)

pub overflow_sub-h : goal.overflow_sub-h
overflow_sub-h c = search (ends, rules)

pub returns-then-h-e-2 : goal.returns-then-h-e-2
returns-then-h-e-2 c = search (ends, rules)

pub overflow_add-result : goal.overflow_add-result
overflow_add-result c = search (ends, rules)

pub returns : goal.returns
returns c = search (ends, rules)
