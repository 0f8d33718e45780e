use Prim.Native.Nat.{◌-◌}
use lib.ListN.{length}
use Rattle.sam.proofs.Names.{Doubting}
use Rattle.sam.proofs.name.doubt_names.Given as goal

abbrev pub invariant-loop-at : goal.invariant-loop-at
invariant-loop-at l = Doubting l.sam l.initial.marks l.initial.doubts l.marks l.doubts l.at

abbrev pub decreases-loop-at : goal.decreases-loop-at
decreases-loop-at l = length l.sam - l.at
