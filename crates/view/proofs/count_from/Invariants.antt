use Prim.Native.Nat.{◌-◌}
use Rattle.entries.specs.Tables.{room}
use Rattle.view.proofs.Walks.{Counting}
use Rattle.view.proofs.count_from.Given as goal

abbrev pub invariant-loop-at : goal.invariant-loop-at
invariant-loop-at l = Counting l.form l.h l.table l.first l.at

abbrev pub decreases-loop-at : goal.decreases-loop-at
decreases-loop-at l = room l.form l.table - l.at
