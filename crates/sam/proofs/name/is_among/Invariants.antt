use Prim.Native.Nat.{◌-◌}
use lib.ListN.{length}
use Rattle.sam.proofs.Names.{Among}
use Rattle.sam.proofs.name.is_among.Given as goal

abbrev pub invariant-loop-at : goal.invariant-loop-at
invariant-loop-at l = Among l.earlier l.name l.at

abbrev pub decreases-loop-at : goal.decreases-loop-at
decreases-loop-at l = length l.earlier - l.at
