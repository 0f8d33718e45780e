use Rattle.lookup.proofs.Fields.{values}
use Rattle.std.proofs.Common.{rules}
use Rattle.lookup.proofs.field.value.Goals as goal

pub entry_at-requires : goal.entry_at-requires
entry_at-requires c = search (values, rules)

pub enum_known-e : goal.enum_known-e
enum_known-e c = search (values, rules)

pub enum_told-1 : goal.enum_told-1
enum_told-1 c = search (values, rules)

pub returns-in_default : goal.returns-in_default
returns-in_default c = search (values, rules)

pub has_id-requires : goal.has_id-requires
has_id-requires c = search (values, rules)

pub returns-then-not-has_id : goal.returns-then-not-has_id
returns-then-not-has_id c = search (values, rules)

pub text_at-requires : goal.text_at-requires
text_at-requires c = search (values, rules)

pub returns : goal.returns
returns c = search (values, rules)
