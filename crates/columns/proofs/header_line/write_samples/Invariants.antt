use Prim.Native.Nat.{◌-◌}
use lib.ListN.{length}
use Rattle.columns.proofs.Stores.{Storing}
use Rattle.columns.proofs.header_line.write_samples.Given as goal

abbrev pub invariant-loop-line : goal.invariant-loop-line
invariant-loop-line l = Storing l.form l.h l.start l.end l.line l.n l.initial.table l.table l.from l.k

abbrev pub decreases-loop-line : goal.decreases-loop-line
decreases-loop-line l = length l.line - l.from
