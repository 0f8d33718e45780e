use Prim.Native.Nat.{◌-◌}
use lib.ListN.{length}
use Rattle.columns.proofs.Names.{Looking}
use Rattle.columns.proofs.header_line.is_among.Given as goal

abbrev pub invariant-loop-at : goal.invariant-loop-at
invariant-loop-at l = Looking l.names l.name l.at

abbrev pub decreases-loop-at : goal.decreases-loop-at
decreases-loop-at l = length l.names - l.at
