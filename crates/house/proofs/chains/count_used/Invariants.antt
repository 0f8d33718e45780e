use Prim.Native.Nat.{◌≤◌}
use Rattle.house.proofs.chains.count_used.Given as goal

abbrev pub invariant-loop-head : goal.invariant-loop-head
invariant-loop-head l = l.n ≤ l.head-index
