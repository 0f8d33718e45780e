use Rattle.std.proofs.Common.{rules}
use Rattle.house.proofs.Linkings.{cells}
use Rattle.house.proofs.links.cell_of.Goals as goal

pub returns-then-k-links : goal.returns-then-k-links
returns-then-k-links c = search (cells, rules)

pub returns-then-links-eq0 : goal.returns-then-links-eq0
returns-then-links-eq0 c = search (cells, rules)

pub nonzero_rem-result : goal.nonzero_rem-result
nonzero_rem-result c = search (cells, rules)

pub returns : goal.returns
returns c = search (cells, rules)
