use Rattle.index.proofs.Building.{Putting}
use Rattle.index.proofs.build.put.Given as goal

abbrev pub invariant-loop-i : goal.invariant-loop-i
invariant-loop-i l = Putting l.initial.index l.index l.first l.word l.at l._i
