use Rattle.std.proofs.Common.{rules}
use Rattle.house.proofs.Linkings.{cells}
use Rattle.house.proofs.links.lower.Goals as goal

pub returns-then-links-cell : goal.returns-then-links-cell
returns-then-links-cell c = search (cells, rules)

pub returns-then-next-links : goal.returns-then-next-links
returns-then-next-links c = search (cells, rules)

pub returns-else-next-links : goal.returns-else-next-links
returns-else-next-links c = search (cells, rules)
