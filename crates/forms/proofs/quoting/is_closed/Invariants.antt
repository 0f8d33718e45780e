use Prim.Native.Nat.{◌-◌}
use lib.ListN.{length}
use Rattle.forms.proofs.Quotes.{Closing}
use Rattle.forms.proofs.quoting.is_closed.Given as goal

abbrev pub invariant-loop-b : goal.invariant-loop-b
invariant-loop-b l = Closing l.quoted l.s l.c.at

abbrev pub decreases-loop-b : goal.decreases-loop-b
decreases-loop-b l = length l.s - l.c.at
