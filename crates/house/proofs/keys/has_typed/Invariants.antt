use Rattle.house.proofs.Looks.{Untyped}
use Rattle.house.proofs.keys.has_typed.Given as goal

abbrev pub invariant-loop-k : goal.invariant-loop-k
invariant-loop-k l = Untyped l.form l.kept l.k
