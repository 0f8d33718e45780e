use Prim.Native.Nat.{◌-◌}
use Rattle.entries.specs.Tables.{room}
use Rattle.ids.proofs.Markings.{Noting}
use Rattle.ids.proofs.scan.mark_noted.Given as goal

abbrev pub invariant-loop-k : goal.invariant-loop-k
invariant-loop-k l = Noting l.h l.form l.kept l.notes l.initial.marks l.marks l.k

abbrev pub decreases-loop-k : goal.decreases-loop-k
decreases-loop-k l = room l.form l.kept - l.k
