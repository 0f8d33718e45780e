use Rattle.records.proofs.Keys.{tried}
use Rattle.std.proofs.Common.{rules}
use Rattle.records.proofs.key.map_key_of.Goals as goal

pub same-requires : goal.same-requires
same-requires c = search (tried, rules) depth 9

pub returns-then-same : goal.returns-then-same
returns-then-same c = search (tried, rules) depth 9

pub same-requires-2 : goal.same-requires-2
same-requires-2 c = search (tried, rules) depth 9

pub returns-then-same-2 : goal.returns-then-same-2
returns-then-same-2 c = search (tried, rules) depth 9

pub same-requires-3 : goal.same-requires-3
same-requires-3 c = search (tried, rules) depth 9

pub returns-then-same-3 : goal.returns-then-same-3
returns-then-same-3 c = search (tried, rules) depth 9

pub same-requires-4 : goal.same-requires-4
same-requires-4 c = search (tried, rules) depth 9

pub returns-then-same-4 : goal.returns-then-same-4
returns-then-same-4 c = search (tried, rules) depth 9

pub same-requires-5 : goal.same-requires-5
same-requires-5 c = search (tried, rules) depth 9

pub returns-then-same-5 : goal.returns-then-same-5
returns-then-same-5 c = search (tried, rules) depth 9

pub untyped_key_of-requires : goal.untyped_key_of-requires
untyped_key_of-requires c = search (tried, rules) depth 9

pub returns : goal.returns
returns c = search (tried, rules) depth 9
