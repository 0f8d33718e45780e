use Rattle.values.proofs.Ascii.{Rising}
use Rattle.values.proofs.utf8.is_ascii.Given as goal

abbrev pub invariant-loop-b : goal.invariant-loop-b
invariant-loop-b l = Rising l.s l.highest l.b-index
