use Rattle.records.proofs.Maps.{closings}
use Rattle.std.proofs.Common.{rules}
use Rattle.records.proofs.map.consume_suffix.Goals as goal

pub returns-else-s-at-eq62 : goal.returns-else-s-at-eq62
returns-else-s-at-eq62 c = search (closings, rules)

pub returns-then-s-at-eq62 : goal.returns-then-s-at-eq62
returns-then-s-at-eq62 c = search (closings, rules)
