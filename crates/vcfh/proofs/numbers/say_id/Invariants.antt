use Prim.Native.Nat.{◌-◌}
use lib.ListN.{length}
use Rattle.vcfh.proofs.numbers.say_id.Given as goal

abbrev pub invariant-loop-b : goal.invariant-loop-b
invariant-loop-b l = Unit {0}

abbrev pub decreases-loop-b : goal.decreases-loop-b
decreases-loop-b l = length l.id - l.c.at
