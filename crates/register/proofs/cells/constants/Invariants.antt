use Rattle.register.proofs.Walk.{Filling}
use Rattle.register.proofs.cells.constants.Given as goal

abbrev pub invariant-loop-well : goal.invariant-loop-well
invariant-loop-well l = Filling l.form l.h l.kept l.lines l.found l.well
