use Rattle.std.proofs.Common.{rules}
use Rattle.register.proofs.Walk.{is_cells}
use Rattle.register.proofs.cells.is_cell.Goals as goal

pub returns-then-e-eq-OTHER_MAP : goal.returns-then-e-eq-OTHER_MAP
returns-then-e-eq-OTHER_MAP c = search (is_cells, rules)

pub returns-else-e-eq-OTHER_MAP : goal.returns-else-e-eq-OTHER_MAP
returns-else-e-eq-OTHER_MAP c = search (is_cells, rules)
