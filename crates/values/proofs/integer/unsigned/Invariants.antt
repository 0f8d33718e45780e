use Rattle.values.proofs.Integers.{Reading}
use Rattle.values.proofs.integer.unsigned.Given as goal

abbrev pub invariant-loop-b : goal.invariant-loop-b
invariant-loop-b l = Reading l.s l.bound l.n l.b-index
