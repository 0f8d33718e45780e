use Rattle.records.proofs.Definitions.{digits}
use Rattle.std.proofs.Common.{rules}
use Rattle.records.proofs.definition.number_coded.Goals as goal

pub returns-in-48-to-57 : goal.returns-in-48-to-57
returns-in-48-to-57 c = search (digits, rules)

pub returns-in_default : goal.returns-in_default
returns-in_default c = search (digits, rules)

pub returns-in_default-2 : goal.returns-in_default-2
returns-in_default-2 c = search (digits, rules)
