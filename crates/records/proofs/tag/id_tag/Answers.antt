use Rattle.records.proofs.Tags.{id_tags}
use Rattle.std.proofs.Common.{rules}
use Rattle.records.proofs.tag.id_tag.Goals as goal

pub returns-then-same : goal.returns-then-same
returns-then-same c = search (id_tags, rules)

pub returns-then-same-2 : goal.returns-then-same-2
returns-then-same-2 c = search (id_tags, rules)

pub returns : goal.returns
returns c = search (id_tags, rules)
