use Rattle.dictionary.proofs.Slotting.{slotted}
use Rattle.std.proofs.Common.{rules}
use Rattle.dictionary.proofs.slots.number_hash.Goals as goal

pub returns : goal.returns
returns c = search (slotted, rules)
