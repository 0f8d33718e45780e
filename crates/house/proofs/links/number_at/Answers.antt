use Rattle.std.proofs.Common.{rules}
use Rattle.house.proofs.Linkings.{slots}
use Rattle.house.proofs.links.number_at.Goals as goal

pub returns-then-numbers-at : goal.returns-then-numbers-at
returns-then-numbers-at c = search (slots, rules)
