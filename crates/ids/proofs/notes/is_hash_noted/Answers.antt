use Rattle.ids.proofs.Aheads.{two_bits}
use Rattle.std.proofs.Common.{rules}
use Rattle.ids.proofs.notes.is_hash_noted.Goals as goal

pub returns-then-is_noted : goal.returns-then-is_noted
returns-then-is_noted c = search (two_bits, rules)

pub returns-else-is_noted : goal.returns-else-is_noted
returns-else-is_noted c = search (two_bits, rules)
