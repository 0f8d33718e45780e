use Rattle.records.proofs.Fields.{Seeking}
use lib.ListN.{length}
use Prim.Native.Nat.{◌-◌}
use Rattle.records.proofs.field.find_field.Given as goal

abbrev pub invariant-loop-equals : goal.invariant-loop-equals
invariant-loop-equals l = Seeking l.brackets l.s l.start l.key l.c.at

abbrev pub decreases-loop-equals : goal.decreases-loop-equals
decreases-loop-equals l = length l.s - l.c.at
