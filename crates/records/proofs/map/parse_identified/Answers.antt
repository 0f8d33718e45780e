use Rattle.records.proofs.Required.{identified}
use Rattle.std.proofs.Common.{rules}
use Rattle.records.proofs.map.parse_identified.Goals as goal

pub parse_map-requires : goal.parse_map-requires
parse_map-requires c = search (identified, rules)

pub enum_known-named : goal.enum_known-named
enum_known-named c = search (identified, rules)

pub returns-in_default : goal.returns-in_default
returns-in_default c = search (identified, rules)

pub returns-in-Some : goal.returns-in-Some
returns-in-Some c = search (identified, rules)
