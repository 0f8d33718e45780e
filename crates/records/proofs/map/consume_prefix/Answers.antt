use Rattle.records.proofs.Maps.{opens}
use Rattle.std.proofs.Common.{rules}
use Rattle.records.proofs.map.consume_prefix.Goals as goal

pub returns-then-s-at-eq60 : goal.returns-then-s-at-eq60
returns-then-s-at-eq60 c = search (opens, rules)

pub returns : goal.returns
returns c = search (opens, rules)
