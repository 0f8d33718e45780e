use Rattle.records.proofs.Required.{described}
use Rattle.std.proofs.Common.{rules}
use Rattle.records.proofs.map.parse_described.Goals as goal

pub parse_map-requires : goal.parse_map-requires
parse_map-requires c = search (described, rules)

pub enum_known-named : goal.enum_known-named
enum_known-named c = search (described, rules)

pub enum_told-1 : goal.enum_told-1
enum_told-1 c = search (described, rules)

pub returns-in_default : goal.returns-in_default
returns-in_default c = search (described, rules)

pub enum_told-in_default-described : goal.enum_told-in_default-described
enum_told-in_default-described c = search (described, rules)

pub returns-in_default-described : goal.returns-in_default-described
returns-in_default-described c = search (described, rules)

pub returns-in-Some-described : goal.returns-in-Some-described
returns-in-Some-described c = search (described, rules)
