use Rattle.std.proofs.Common.{rules}
use Rattle.house.proofs.Others.{passes}
use Rattle.house.proofs.keys.skip_under.Goals as goal

pub loop-k-init : goal.loop-k-init
loop-k-init c = search (passes, rules)

pub get-requires : goal.get-requires
get-requires c = search (passes, rules)

pub is_under-requires : goal.is_under-requires
is_under-requires c = search (passes, rules)

pub returns-then-not-is_under : goal.returns-then-not-is_under
returns-then-not-is_under c = search (passes, rules)

pub loop-k-smaller : goal.loop-k-smaller
loop-k-smaller c = search (passes, rules)

pub loop-k-preserved : goal.loop-k-preserved
loop-k-preserved c = search (passes, rules)

pub returns : goal.returns
returns c = search (passes, rules)
