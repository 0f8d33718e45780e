use Rattle.records.proofs.Numbers.{types}
use Rattle.std.proofs.Common.{rules}
use Rattle.records.proofs.number.is_type.Goals as goal

pub returns-then-flag : goal.returns-then-flag
returns-then-flag c = search (types, rules)

pub returns : goal.returns
returns c = search (types, rules)
