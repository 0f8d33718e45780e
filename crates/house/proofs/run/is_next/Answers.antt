use Rattle.house.proofs.Runs.{nexts}
use Rattle.std.proofs.Common.{rules}
use Rattle.house.proofs.run.is_next.Goals as goal

pub overflow_add-stop : goal.overflow_add-stop
overflow_add-stop c = search (nexts, rules)

pub bounds-h-stop : goal.bounds-h-stop
bounds-h-stop c = search (nexts, rules)

pub is_under-requires : goal.is_under-requires
is_under-requires c = search (nexts, rules)

pub line_part-requires : goal.line_part-requires
line_part-requires c = search (nexts, rules)

pub is_short-requires : goal.is_short-requires
is_short-requires c = search (nexts, rules)
