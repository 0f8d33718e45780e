use Rattle.register.proofs.Walk.{Missing}
use Rattle.register.proofs.cells.is_missing.Given as goal

abbrev pub invariant-loop-well : goal.invariant-loop-well
invariant-loop-well l = Missing l.lines l.well
