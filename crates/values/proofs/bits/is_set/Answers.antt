use Rattle.values.proofs.WordBits.{bits}
use Rattle.std.proofs.Common.{rules}
use Rattle.values.proofs.bits.is_set.Goals as goal

pub returns-then-words-at : goal.returns-then-words-at
returns-then-words-at c = search (bits, rules)

pub returns : goal.returns
returns c = search (bits, rules)
