use Rattle.house.proofs.Others.{skips}
use Rattle.std.proofs.Common.{rules}
use Rattle.house.proofs.keys.skip_same.Goals as goal

pub overflow_add-next : goal.overflow_add-next
overflow_add-next c = search (skips, rules)

pub returns-then-heads-gt0 : goal.returns-then-heads-gt0
returns-then-heads-gt0 c = search (skips, rules)

pub get-e-requires : goal.get-e-requires
get-e-requires c = search (skips, rules)

pub is_other-requires : goal.is_other-requires
is_other-requires c = search (skips, rules)

pub returns-then-not-is_other : goal.returns-then-not-is_other
returns-then-not-is_other c = search (skips, rules)

pub prefix_part-requires : goal.prefix_part-requires
prefix_part-requires c = search (skips, rules)

pub skip_under-requires : goal.skip_under-requires
skip_under-requires c = search (skips, rules)

pub returns : goal.returns
returns c = search (skips, rules)
