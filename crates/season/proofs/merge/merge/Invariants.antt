use Rattle.season.proofs.Merging.{Merging}
use Rattle.season.proofs.merge.merge.Given as goal

abbrev pub invariant-loop-i : goal.invariant-loop-i
invariant-loop-i l = Merging l.sheet l.other l.sums l.i
