use Rattle.std.proofs.Common.{rules}
use Rattle.records.proofs.Definitions.{typed}
use Rattle.records.proofs.definition.type_coded.Goals as goal

pub returns-in-102 : goal.returns-in-102
returns-in-102 c = search (typed, rules)

pub returns-in-70 : goal.returns-in-70
returns-in-70 c = search (typed, rules)

pub returns-in-73 : goal.returns-in-73
returns-in-73 c = search (typed, rules)

pub returns-in_default : goal.returns-in_default
returns-in_default c = search (typed, rules)
