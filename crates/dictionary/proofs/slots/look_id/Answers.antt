use Rattle.std.proofs.Common.{rules}
use Rattle.dictionary.proofs.Slotting.{looks}
use Rattle.dictionary.proofs.slots.look_id.Goals as goal

pub loop-at-init : goal.loop-at-init
loop-at-init c = search (looks, rules)
