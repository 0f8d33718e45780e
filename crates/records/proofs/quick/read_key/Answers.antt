use Rattle.records.proofs.Quickly.{keys_quickly}
use Rattle.std.proofs.Common.{rules}
use Rattle.records.proofs.quick.read_key.Goals as goal

pub find-end-requires : goal.find-end-requires
find-end-requires c = search (keys_quickly, rules)

pub returns-then-end-eq2 : goal.returns-then-end-eq2
returns-then-end-eq2 c = search (keys_quickly, rules)

pub part-name-requires : goal.part-name-requires
part-name-requires c = search (keys_quickly, rules)

pub overflow_add-at : goal.overflow_add-at
overflow_add-at c = search (keys_quickly, rules)

pub same-requires : goal.same-requires
same-requires c = search (keys_quickly, rules)

pub returns-then-same : goal.returns-then-same
returns-then-same c = search (keys_quickly, rules)

pub map_key_of-requires : goal.map_key_of-requires
map_key_of-requires c = search (keys_quickly, rules)

pub enum_told-1 : goal.enum_told-1
enum_told-1 c = search (keys_quickly, rules)

pub enum_told-in-Other : goal.enum_told-in-Other
enum_told-in-Other c = search (keys_quickly, rules)

pub returns-in-Contig : goal.returns-in-Contig
returns-in-Contig c = search (keys_quickly, rules)

pub returns-in-Other : goal.returns-in-Other
returns-in-Other c = search (keys_quickly, rules)

pub returns-in_default : goal.returns-in_default
returns-in_default c = search (keys_quickly, rules)
