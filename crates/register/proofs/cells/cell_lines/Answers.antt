use Rattle.std.proofs.Common.{rules}
use Rattle.register.proofs.Walk.{walks}
use Rattle.register.proofs.cells.cell_lines.Goals as goal

pub loop-k-init : goal.loop-k-init
loop-k-init c = search (walks, rules)

pub loop-k-preserved-then-is_cell : goal.loop-k-preserved-then-is_cell
loop-k-preserved-then-is_cell c = search (walks, rules)

pub loop-k-preserved : goal.loop-k-preserved
loop-k-preserved c = search (walks, rules)
