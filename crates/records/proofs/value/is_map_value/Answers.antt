use Rattle.records.proofs.Records.{are_maps}
use Rattle.std.proofs.Common.{rules}
use Rattle.records.proofs.value.is_map_value.Goals as goal

pub is_typed-requires : goal.is_typed-requires
is_typed-requires c = search (are_maps, rules)

pub is_always_map-requires : goal.is_always_map-requires
is_always_map-requires c = search (are_maps, rules)

pub returns-then-is_always_map : goal.returns-then-is_always_map
returns-then-is_always_map c = search (are_maps, rules)

pub is_map-requires : goal.is_map-requires
is_map-requires c = search (are_maps, rules)

pub returns-else-is_always_map : goal.returns-else-is_always_map
returns-else-is_always_map c = search (are_maps, rules)
