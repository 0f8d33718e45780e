use Rattle.std.proofs.Common.{rules}
use Rattle.records.proofs.Maps.{put_told}
use Rattle.records.proofs.map.Slots.put.Goals as goal

pub returns-in-Id : goal.returns-in-Id
returns-in-Id c = search (put_told, rules)

pub returns-in-Number : goal.returns-in-Number
returns-in-Number c = search (put_told, rules)

pub returns-in-ValueType : goal.returns-in-ValueType
returns-in-ValueType c = search (put_told, rules)

pub returns-in-Description : goal.returns-in-Description
returns-in-Description c = search (put_told, rules)

pub returns-in_default : goal.returns-in_default
returns-in_default c = search (put_told, rules)
