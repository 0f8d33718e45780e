use Rattle.records.proofs.Loops.{bares}
use Rattle.std.proofs.Common.{rules}
use Rattle.records.proofs.map.is_bare.Goals as goal

pub returns-then-s-at : goal.returns-then-s-at
returns-then-s-at c = search (bares, rules)

pub returns-else-not-is_always_map : goal.returns-else-not-is_always_map
returns-else-not-is_always_map c = search (bares, rules)

pub returns-else-s-at : goal.returns-else-s-at
returns-else-s-at c = search (bares, rules)
