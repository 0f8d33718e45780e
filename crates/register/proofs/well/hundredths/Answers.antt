use Rattle.std.proofs.Common.{rules}
use Rattle.register.proofs.Spelling.{spelled_constants}
use Rattle.register.proofs.well.hundredths.Goals as goal

pub returns-in_default : goal.returns-in_default
returns-in_default c = search (spelled_constants, rules)

pub returns-in_default-2 : goal.returns-in_default-2
returns-in_default-2 c = search (spelled_constants, rules)

pub returns-in_default-3 : goal.returns-in_default-3
returns-in_default-3 c = search (spelled_constants, rules)

pub returns-then-ones-gt9 : goal.returns-then-ones-gt9
returns-then-ones-gt9 c = search (spelled_constants, rules)

pub returns : goal.returns
returns c = search (spelled_constants, rules)
