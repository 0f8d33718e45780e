use Rattle.index.proofs.Building.{Placing}
use Rattle.index.proofs.build.place_all.Given as goal

abbrev pub invariant-loop-n : goal.invariant-loop-n
invariant-loop-n l = Placing l.form l.h l.table l.initial.index l.index l.n
