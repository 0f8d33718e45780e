use Rattle.records.proofs.Keys.{always}
use Rattle.std.proofs.Common.{rules}
use Rattle.records.proofs.key.MapKey.is_always_map.Goals as goal

pub is_meta-requires : goal.is_meta-requires
is_meta-requires c = search (always, rules)

pub returns-then-is_meta : goal.returns-then-is_meta
returns-then-is_meta c = search (always, rules)

pub is_pedigree-requires : goal.is_pedigree-requires
is_pedigree-requires c = search (always, rules)

pub returns-else-is_meta : goal.returns-else-is_meta
returns-else-is_meta c = search (always, rules)
