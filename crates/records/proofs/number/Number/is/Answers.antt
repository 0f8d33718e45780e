use Rattle.records.proofs.Numbers.{numbers}
use Rattle.std.proofs.Common.{rules}
use Rattle.records.proofs.number.Number.is.Goals as goal

pub returns-in_default : goal.returns-in_default
returns-in_default c = search (numbers, rules)

pub returns-in-Letter : goal.returns-in-Letter
returns-in-Letter c = search (numbers, rules)
