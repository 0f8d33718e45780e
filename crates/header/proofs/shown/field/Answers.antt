use Rattle.header.proofs.Fields.{all_fields}
use Rattle.std.proofs.Common.{rules}
use Rattle.header.proofs.shown.field.Goals as goal

pub entry_at-requires : goal.entry_at-requires
entry_at-requires c = search (all_fields, rules)

pub enum_known-e : goal.enum_known-e
enum_known-e c = search (all_fields, rules)

pub enum_told-1 : goal.enum_told-1
enum_told-1 c = search (all_fields, rules)

pub returns-in_default : goal.returns-in_default
returns-in_default c = search (all_fields, rules)

pub has_id-requires : goal.has_id-requires
has_id-requires c = search (all_fields, rules)

pub returns-then-not-has_id : goal.returns-then-not-has_id
returns-then-not-has_id c = search (all_fields, rules)

pub field_at-requires : goal.field_at-requires
field_at-requires c = search (all_fields, rules)

pub returns : goal.returns
returns c = search (all_fields, rules)
