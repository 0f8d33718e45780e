use Rattle.house.proofs.Others.{sees}
use Rattle.std.proofs.Common.{rules}
use Rattle.house.proofs.keys.is_seen.Goals as goal

pub number_at-k-requires : goal.number_at-k-requires
number_at-k-requires c = search (sees, rules)

pub loop-k-init : goal.loop-k-init
loop-k-init c = search (sees, rules)

pub get-e-requires : goal.get-e-requires
get-e-requires c = search (sees, rules)

pub overflow_add-k : goal.overflow_add-k
overflow_add-k c = search (sees, rules)

pub is_under-requires : goal.is_under-requires
is_under-requires c = search (sees, rules)

pub returns-then-is_under : goal.returns-then-is_under
returns-then-is_under c = search (sees, rules)

pub pass_other-k-requires : goal.pass_other-k-requires
pass_other-k-requires c = search (sees, rules)

pub loop-k-smaller : goal.loop-k-smaller
loop-k-smaller c = search (sees, rules)

pub loop-k-preserved : goal.loop-k-preserved
loop-k-preserved c = search (sees, rules)

pub returns : goal.returns
returns c = search (sees, rules)
