use Rattle.records.proofs.Tags.{id_names}
use Rattle.std.proofs.Common.{rules}
use Rattle.records.proofs.key.MapKey.names_id.Goals as goal

pub same-requires : goal.same-requires
same-requires c = search (id_names, rules)

pub returns-then-same : goal.returns-then-same
returns-then-same c = search (id_names, rules)

pub has_lineage-requires : goal.has_lineage-requires
has_lineage-requires c = search (id_names, rules)

pub id_tag-requires : goal.id_tag-requires
id_tag-requires c = search (id_names, rules)

pub returns-else-has_lineage : goal.returns-else-has_lineage
returns-else-has_lineage c = search (id_names, rules)

pub returns-then-has_lineage : goal.returns-then-has_lineage
returns-then-has_lineage c = search (id_names, rules)
