use Rattle.house.proofs.Manys.{Walking}
use Prim.Native.Nat.{◌-◌}
use Rattle.records.specs.Formats.{version_of}
use Rattle.house.proofs.many.put_all.Given as goal

abbrev pub invariant-loop-k : goal.invariant-loop-k
invariant-loop-k l =
    Walking l.form (version_of l.version) l.h l.initial.kept l.prefix l.initial.k l.end l.given l.initial.out l.initial.progress l.kept l.out l.progress l.k

abbrev pub decreases-loop-k : goal.decreases-loop-k
decreases-loop-k l = l.end - l.k
