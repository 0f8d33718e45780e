use Rattle.records.proofs.Keys.{tried}
use Rattle.std.proofs.Common.{rules}
use Rattle.records.proofs.key.untyped_key_of.Goals as goal

pub same-requires : goal.same-requires
same-requires c = search (tried, rules) depth 9

pub returns-then-same : goal.returns-then-same
returns-then-same c = search (tried, rules) depth 9

pub same-requires-2 : goal.same-requires-2
same-requires-2 c = search (tried, rules) depth 9

pub returns-then-same-2 : goal.returns-then-same-2
returns-then-same-2 c = search (tried, rules) depth 9

pub returns : goal.returns
returns c = search (tried, rules) depth 9
