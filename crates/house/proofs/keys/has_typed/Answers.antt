use Rattle.std.proofs.Common.{rules}
use Rattle.house.proofs.Looks.{untypeds}
use Rattle.house.proofs.keys.has_typed.Goals as goal

pub loop-k-init : goal.loop-k-init
loop-k-init c = search (untypeds, rules)

pub is_typed-requires : goal.is_typed-requires
is_typed-requires c = search (untypeds, rules)

pub returns-then-is_typed : goal.returns-then-is_typed
returns-then-is_typed c = search (untypeds, rules)

pub loop-k-smaller : goal.loop-k-smaller
loop-k-smaller c = search (untypeds, rules)

pub loop-k-preserved : goal.loop-k-preserved
loop-k-preserved c = search (untypeds, rules)

pub returns : goal.returns
returns c = search (untypeds, rules)
