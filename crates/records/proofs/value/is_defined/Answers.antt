use Rattle.records.proofs.Declares.{defined}
use Rattle.std.proofs.Common.{rules}
use Rattle.records.proofs.value.is_defined.Goals as goal

pub enum_known-definition : goal.enum_known-definition
enum_known-definition c = search (defined, rules)

pub is-requires : goal.is-requires
is-requires c = search (defined, rules)
