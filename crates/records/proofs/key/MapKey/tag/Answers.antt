use Rattle.records.proofs.Tags.{names}
use Rattle.std.proofs.Common.{rules}
use Rattle.records.proofs.key.MapKey.tag.Goals as goal

pub names_id-requires : goal.names_id-requires
names_id-requires c = search (names, rules)

pub returns-then-names_id : goal.returns-then-names_id
returns-then-names_id c = search (names, rules)

pub tag_after_id-requires : goal.tag_after_id-requires
tag_after_id-requires c = search (names, rules)

pub returns : goal.returns
returns c = search (names, rules)
