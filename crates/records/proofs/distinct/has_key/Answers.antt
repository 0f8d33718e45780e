use Rattle.records.proofs.Fields.{key_places}
use Rattle.std.proofs.Common.{rules}
use Rattle.records.proofs.distinct.has_key.Goals as goal

pub find_field-requires : goal.find_field-requires
find_field-requires c = search (key_places, rules)

pub enum_known-text : goal.enum_known-text
enum_known-text c = search (key_places, rules)

pub enum_told-1 : goal.enum_told-1
enum_told-1 c = search (key_places, rules)

pub returns-in_default : goal.returns-in_default
returns-in_default c = search (key_places, rules)

pub returns : goal.returns
returns c = search (key_places, rules)
