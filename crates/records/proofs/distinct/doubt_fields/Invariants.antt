use Prim.Native.Nat.{◌-◌}
use lib.ListN.{length}
use Rattle.records.proofs.Distincts.{Doubting}
use Rattle.records.proofs.distinct.doubt_fields.Given as goal

abbrev pub invariant-loop-equals : goal.invariant-loop-equals
invariant-loop-equals l = Doubting l.classes l.class l.map l.s l.initial.doubts l.doubts l.initial.marks l.marks l.c.at

abbrev pub decreases-loop-equals : goal.decreases-loop-equals
decreases-loop-equals l = length l.s - l.c.at
