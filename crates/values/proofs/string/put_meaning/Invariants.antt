use Prim.Native.Nat.{◌-◌}
use lib.ListN.{length}
use Rattle.values.proofs.Meanings.{Writing}
use Rattle.values.proofs.string.put_meaning.Given as goal

abbrev pub invariant-loop-b : goal.invariant-loop-b
invariant-loop-b l = Writing l.given l.initial.out l.initial.next l.s l.quoted l.quote l.out l.next l.c.at

abbrev pub decreases-loop-b : goal.decreases-loop-b
decreases-loop-b l = length l.s - l.c.at
