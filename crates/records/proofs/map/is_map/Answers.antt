use Rattle.records.proofs.Maps.{looks}
use Rattle.std.proofs.Common.{rules}
use Rattle.records.proofs.map.is_map.Goals as goal

pub returns-then-lt : goal.returns-then-lt
returns-then-lt c = search (looks, rules)

pub returns : goal.returns
returns c = search (looks, rules)
