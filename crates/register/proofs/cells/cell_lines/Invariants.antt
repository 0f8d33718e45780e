use Rattle.register.proofs.Walk.{Walked}
use Rattle.register.proofs.cells.cell_lines.Given as goal

abbrev pub invariant-loop-k : goal.invariant-loop-k
invariant-loop-k l = Walked l.form l.h l.kept l.lines l.k
