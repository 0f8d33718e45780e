use Prim.Native.Nat.{◌-◌}
use lib.ListN.{length}
use Rattle.forms.proofs.Copies.{Copying}
use Rattle.forms.proofs.others.put_others.Given as goal

abbrev pub invariant-loop-equals : goal.invariant-loop-equals
invariant-loop-equals l = Copying l.map l.s l.given l.initial.out l.initial.next l.out l.next l.c.at

abbrev pub decreases-loop-equals : goal.decreases-loop-equals
decreases-loop-equals l = length l.s - l.c.at
