use Rattle.values.proofs.Blocks.{Walking}
use Rattle.values.proofs.utf8.all_fit.Given as goal

abbrev pub invariant-loop-b : goal.invariant-loop-b
invariant-loop-b l = Walking l.initial.third l.initial.second l.initial.nearest l.s l.third l.second l.nearest l.fit l.b-index
