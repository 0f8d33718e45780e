use Rattle.records.proofs.Numbers.{type_named}
use Rattle.std.proofs.Common.{rules}
use Rattle.records.proofs.number.ValueType.is.Goals as goal

pub returns-in-Integer : goal.returns-in-Integer
returns-in-Integer c = search (type_named, rules)

pub returns-in-Float : goal.returns-in-Float
returns-in-Float c = search (type_named, rules)

pub returns-in-Flag : goal.returns-in-Flag
returns-in-Flag c = search (type_named, rules)

pub returns-in-Character : goal.returns-in-Character
returns-in-Character c = search (type_named, rules)

pub returns-in-String : goal.returns-in-String
returns-in-String c = search (type_named, rules)
