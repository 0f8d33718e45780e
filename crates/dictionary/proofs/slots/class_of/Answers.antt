use Rattle.dictionary.proofs.Slotting.{slotted}
use Rattle.std.proofs.Common.{rules}
use Rattle.dictionary.proofs.slots.class_of.Goals as goal

pub returns-then-classes-eq0 : goal.returns-then-classes-eq0
returns-then-classes-eq0 c = search (slotted, rules)

pub returns : goal.returns
returns c = search (slotted, rules)
