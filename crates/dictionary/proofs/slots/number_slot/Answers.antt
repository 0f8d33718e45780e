use Rattle.dictionary.proofs.Slotting.{slotted}
use Rattle.std.proofs.Common.{rules}
use Rattle.dictionary.proofs.slots.number_slot.Goals as goal

pub returns-then-n-own : goal.returns-then-n-own
returns-then-n-own c = search (slotted, rules)

pub returns : goal.returns
returns c = search (slotted, rules)
