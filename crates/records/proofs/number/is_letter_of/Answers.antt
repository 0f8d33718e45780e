use Rattle.records.proofs.Numbers.{letters}
use Rattle.std.proofs.Common.{rules}
use Rattle.records.proofs.number.is_letter_of.Goals as goal

pub returns-in-Common : goal.returns-in-Common
returns-in-Common c = search (letters, rules)

pub returns-in-Phased : goal.returns-in-Phased
returns-in-Phased c = search (letters, rules)

pub returns-in-Local : goal.returns-in-Local
returns-in-Local c = search (letters, rules)
