use Rattle.values.proofs.Sames.{Ending}
use Rattle.values.proofs.bytes.same.Given as goal

abbrev pub invariant-loop-i : goal.invariant-loop-i
invariant-loop-i l = Ending l.a l.b l.i
