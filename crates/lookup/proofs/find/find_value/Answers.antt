use Rattle.lookup.proofs.Fields.{found_values}
use Rattle.std.proofs.Common.{rules}
use Rattle.lookup.proofs.find.find_value.Goals as goal

pub find_entry-requires : goal.find_entry-requires
find_entry-requires c = search (found_values, rules)

pub enum_known-n : goal.enum_known-n
enum_known-n c = search (found_values, rules)

pub value-requires : goal.value-requires
value-requires c = search (found_values, rules)

pub enum_told-1 : goal.enum_told-1
enum_told-1 c = search (found_values, rules)
