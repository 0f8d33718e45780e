use Rattle.records.proofs.Keys.{lineages}
use Rattle.std.proofs.Common.{rules}
use Rattle.records.proofs.key.MapKey.has_lineage.Goals as goal

pub is_pedigree-requires : goal.is_pedigree-requires
is_pedigree-requires c = search (lineages, rules)

pub lt-requires : goal.lt-requires
lt-requires c = search (lineages, rules)

pub returns-else-is_pedigree : goal.returns-else-is_pedigree
returns-else-is_pedigree c = search (lineages, rules)

pub returns-then-is_pedigree : goal.returns-then-is_pedigree
returns-then-is_pedigree c = search (lineages, rules)
