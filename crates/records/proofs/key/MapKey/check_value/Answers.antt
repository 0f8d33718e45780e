use Rattle.records.proofs.Maps.{values}
use Rattle.std.proofs.Common.{rules}
use Rattle.records.proofs.key.MapKey.check_value.Goals as goal

pub returns-in-Number : goal.returns-in-Number
returns-in-Number c = search (values, rules)

pub returns-in-ValueType : goal.returns-in-ValueType
returns-in-ValueType c = search (values, rules)

pub returns-in-Length : goal.returns-in-Length
returns-in-Length c = search (values, rules)

pub returns-in-Id : goal.returns-in-Id
returns-in-Id c = search (values, rules)
