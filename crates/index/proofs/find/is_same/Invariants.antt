use Rattle.index.proofs.Finding.{Comparing}
use Rattle.index.proofs.find.is_same.Given as goal

abbrev pub invariant-loop-i : goal.invariant-loop-i
invariant-loop-i l = Comparing l.a l.b l.alike l.i
