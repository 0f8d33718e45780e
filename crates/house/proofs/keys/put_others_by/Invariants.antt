use Rattle.house.proofs.Others.{Othering}
use Rattle.records.specs.Formats.{version_of}
use Rattle.entries.specs.Tables.{room}
use Prim.Native.Nat.{◌-◌}
use Rattle.house.proofs.keys.put_others_by.Given as goal

abbrev pub invariant-loop-k : goal.invariant-loop-k
invariant-loop-k l = Othering l.form (version_of l.version) l.h l.kept l.heads l.links l.given l.initial.out l.initial.progress l.out l.progress l.k

abbrev pub decreases-loop-k : goal.decreases-loop-k
decreases-loop-k l = room l.form l.kept - l.k
