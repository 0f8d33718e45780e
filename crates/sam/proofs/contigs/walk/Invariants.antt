use Prim.Native.Nat.{◌-◌}
use lib.ListN.{length}
use Rattle.sam.proofs.Walks.{Walking}
use Rattle.sam.proofs.contigs.walk.Given as goal

abbrev pub invariant-loop-at : goal.invariant-loop-at
invariant-loop-at l = Walking l.sam l.doubts l.initial.marks l.initial.out l.marks l.out l.at l.lines l.contigs l.next

abbrev pub decreases-loop-at : goal.decreases-loop-at
decreases-loop-at l = length l.sam - l.at
