use Rattle.records.proofs.Tags.{tried}
use Rattle.std.proofs.Common.{rules}
use Rattle.records.proofs.tag.alternative_allele_tag.Goals as goal

pub same-requires : goal.same-requires
same-requires c = search (tried, rules)

pub returns-then-same : goal.returns-then-same
returns-then-same c = search (tried, rules)

pub returns : goal.returns
returns c = search (tried, rules)
