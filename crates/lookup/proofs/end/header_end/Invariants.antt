use Rattle.lookup.proofs.Endings.{Ending}
use Prim.Native.Nat.{◌-◌}
use lib.ListN.{length}
use Rattle.lookup.proofs.end.header_end.Given as goal

abbrev pub invariant-loop-at : goal.invariant-loop-at
invariant-loop-at l = Ending l.s l.at

abbrev pub decreases-loop-at : goal.decreases-loop-at
decreases-loop-at l = length l.s - l.at
