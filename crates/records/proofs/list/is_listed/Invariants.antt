use Prim.Native.Nat.{◌-◌}
use lib.ListN.{length}
use Rattle.records.proofs.Lists.{Listing}
use Rattle.records.proofs.list.is_listed.Given as goal

abbrev pub invariant-loop-quoted : goal.invariant-loop-quoted
invariant-loop-quoted l = Listing l.list l.s l.quoted l.start

abbrev pub decreases-loop-quoted : goal.decreases-loop-quoted
decreases-loop-quoted l = length l.list - l.start
