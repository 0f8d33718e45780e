use Prim.Native.Nat.{◌-◌}
use lib.ListN.{length}
use Rattle.forms.proofs.Stands.{Passing}
use Rattle.forms.proofs.formed.pass_others.Given as goal

abbrev pub invariant-loop-equals : goal.invariant-loop-equals
invariant-loop-equals l = Passing l.map l.s l.initial.c.at l.c.at

abbrev pub decreases-loop-equals : goal.decreases-loop-equals
decreases-loop-equals l = length l.s - l.c.at
