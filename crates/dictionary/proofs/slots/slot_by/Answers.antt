use Rattle.std.proofs.Common.{rules}
use Rattle.dictionary.proofs.Slotting.{slotted}
use Rattle.dictionary.proofs.slots.slot_by.Goals as goal

pub returns-then-slots-eq0-clause-slot : goal.returns-then-slots-eq0-clause-slot
returns-then-slots-eq0-clause-slot c = search (slotted, rules)

pub returns-clause-slot : goal.returns-clause-slot
returns-clause-slot c = search (slotted, rules)
