use Rattle.entries.proofs.Plains.{Blocking}
use Prim.Native.Nat.{◌-◌}
use Rattle.entries.proofs.formed.all_formed.Given as goal

abbrev pub invariant-loop-n : goal.invariant-loop-n
invariant-loop-n l = Blocking l.form l.h l.table l.count l.n

abbrev pub decreases-loop-n : goal.decreases-loop-n
decreases-loop-n l = l.count - l.n
