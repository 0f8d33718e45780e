use Prim.Native.Nat.{◌-◌}
use lib.ListN.{length}
use Rattle.columns.proofs.Names.{Doubting}
use Rattle.columns.proofs.header_line.doubt_names.Given as goal

abbrev pub invariant-loop-classes : goal.invariant-loop-classes
invariant-loop-classes l = Doubting l.classes l.class l.s l.initial.marks l.initial.doubts l.at l.marks l.doubts

abbrev pub decreases-loop-classes : goal.decreases-loop-classes
decreases-loop-classes l = length l.s - l.at
