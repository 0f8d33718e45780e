use Rattle.records.proofs.Tags.{tried}
use Rattle.std.proofs.Common.{rules}
use Rattle.records.proofs.tag.contig_tag.Goals as goal

pub same-requires : goal.same-requires
same-requires c = search (tried, rules)

pub returns-then-same : goal.returns-then-same
returns-then-same c = search (tried, rules)

pub same-requires-2 : goal.same-requires-2
same-requires-2 c = search (tried, rules)

pub returns-then-same-2 : goal.returns-then-same-2
returns-then-same-2 c = search (tried, rules)

pub same-requires-3 : goal.same-requires-3
same-requires-3 c = search (tried, rules)

pub returns-then-same-3 : goal.returns-then-same-3
returns-then-same-3 c = search (tried, rules)

pub same-requires-4 : goal.same-requires-4
same-requires-4 c = search (tried, rules)

pub returns-then-same-4 : goal.returns-then-same-4
returns-then-same-4 c = search (tried, rules)

pub returns : goal.returns
returns c = search (tried, rules)
