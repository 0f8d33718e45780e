use Rattle.house.proofs.Others.{Seeing}
use Prim.Native.Nat.{◌-◌}
use Rattle.house.proofs.keys.is_seen.Given as goal

abbrev pub invariant-loop-k : goal.invariant-loop-k
invariant-loop-k l = Seeing l.form l.h l.kept l.prefix l.slot l.heads l.links l.k

abbrev pub decreases-loop-k : goal.decreases-loop-k
decreases-loop-k l = l.end - l.k
