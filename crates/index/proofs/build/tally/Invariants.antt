use Rattle.index.proofs.Building.{Tallying}
use Rattle.index.proofs.build.tally.Given as goal

abbrev pub invariant-loop-n : goal.invariant-loop-n
invariant-loop-n l = Tallying l.form l.h l.table l.n l.count l.last
