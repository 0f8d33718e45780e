use Rattle.lookup.proofs.Entries.{descriptions}
use Rattle.std.proofs.Common.{rules}
use Rattle.lookup.proofs.entry.describe.Goals as goal

pub entry_at-requires : goal.entry_at-requires
entry_at-requires c = search (descriptions, rules)

pub enum_known-e : goal.enum_known-e
enum_known-e c = search (descriptions, rules)

pub enum_told-1 : goal.enum_told-1
enum_told-1 c = search (descriptions, rules)

pub returns-in_default : goal.returns-in_default
returns-in_default c = search (descriptions, rules)

pub key_of-key-requires : goal.key_of-key-requires
key_of-key-requires c = search (descriptions, rules)

pub overflow_add-e : goal.overflow_add-e
overflow_add-e c = search (descriptions, rules)

pub if_told-key_start-requires : goal.if_told-key_start-requires
if_told-key_start-requires c = search (descriptions, rules)

pub has_id-has_id-requires : goal.has_id-has_id-requires
has_id-has_id-requires c = search (descriptions, rules)

pub overflow_add-e-2 : goal.overflow_add-e-2
overflow_add-e-2 c = search (descriptions, rules)

pub if_told-id_start-requires : goal.if_told-id_start-requires
if_told-id_start-requires c = search (descriptions, rules)

pub returns : goal.returns
returns c = search (descriptions, rules)
