use Prim.Native.Nat.{ℕ, ◌-◌}
use mathlib.Core.Bool.{Bool}
use lib.ListN.{length}
use Rattle.values.specs.Bytes.{Tells}
use Rattle.values.proofs.Scans.{Scanning}
use Rattle.values.proofs.bytes.find_by.Given as goal

abbrev pub invariant-loop-i : goal.invariant-loop-i
invariant-loop-i g l = (t : ℕ → Bool) → Tells (goal.F-post g l.passes) t → Scanning t l.s l.start l.i

abbrev pub decreases-loop-i : goal.decreases-loop-i
decreases-loop-i g l = length l.s - l.i
