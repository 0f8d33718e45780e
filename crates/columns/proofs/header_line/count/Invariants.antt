use Prim.Native.Nat.{◌≤◌}
use Rattle.columns.proofs.header_line.count.Given as goal

abbrev pub invariant-loop-b : goal.invariant-loop-b
invariant-loop-b l = l.n ≤ l.b-index
