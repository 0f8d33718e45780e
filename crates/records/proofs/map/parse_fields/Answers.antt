use Rattle.records.proofs.Loops.{all_fields}
use Rattle.std.proofs.Common.{rules}
use Rattle.records.proofs.map.parse_fields.Goals as goal

pub is_bare-requires : goal.is_bare-requires
is_bare-requires c = search (all_fields, rules)

pub context-map-requires : goal.context-map-requires
context-map-requires c = search (all_fields, rules)

pub walk_fields-requires : goal.walk_fields-requires
walk_fields-requires c = search (all_fields, rules)

pub returns-then-not-is_bare : goal.returns-then-not-is_bare
returns-then-not-is_bare c = search (all_fields, rules)

pub consume_suffix-requires : goal.consume_suffix-requires
consume_suffix-requires c = search (all_fields, rules)

pub empty-requires : goal.empty-requires
empty-requires c = search (all_fields, rules)

pub returns-then-consume_suffix : goal.returns-then-consume_suffix
returns-then-consume_suffix c = search (all_fields, rules)

pub returns : goal.returns
returns c = search (all_fields, rules)
