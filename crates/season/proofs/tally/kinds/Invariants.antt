use Rattle.season.proofs.Tallies.{Counting}
use Rattle.season.proofs.tally.kinds.Given as goal

abbrev pub invariant-loop-n : goal.invariant-loop-n
invariant-loop-n l = Counting l.form l.kept l.tally l.n
