use Rattle.records.proofs.Tags.{tried}
use Rattle.std.proofs.Common.{rules}
use Rattle.records.proofs.tag.typed_tag.Goals as goal

pub same-requires : goal.same-requires
same-requires c = search (tried, rules)

pub returns-then-same : goal.returns-then-same
returns-then-same c = search (tried, rules)

pub same-requires-2 : goal.same-requires-2
same-requires-2 c = search (tried, rules)

pub returns-then-same-2 : goal.returns-then-same-2
returns-then-same-2 c = search (tried, rules)

pub filter_tag-requires : goal.filter_tag-requires
filter_tag-requires c = search (tried, rules)

pub returns : goal.returns
returns c = search (tried, rules)
