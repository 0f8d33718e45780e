use Rattle.std.proofs.Common.{rules}
use Rattle.records.proofs.Records.{values}
use Rattle.records.proofs.value.parse_value.Goals as goal

pub is_map_value-requires : goal.is_map_value-requires
is_map_value-requires c = search (values, rules)

pub returns-then-not-is_map_value : goal.returns-then-not-is_map_value
returns-then-not-is_map_value c = search (values, rules)

pub parse_map_value-requires : goal.parse_map_value-requires
parse_map_value-requires c = search (values, rules)

pub returns-in-Ok : goal.returns-in-Ok
returns-in-Ok c = search (values, rules)

pub returns-in-Err : goal.returns-in-Err
returns-in-Err c = search (values, rules)
