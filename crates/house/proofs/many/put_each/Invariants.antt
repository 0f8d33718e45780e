use Rattle.house.proofs.Manys.{Stepping}
use Rattle.records.specs.Formats.{version_of}
use Rattle.house.proofs.many.put_each.Given as goal

abbrev pub invariant-loop-k : goal.invariant-loop-k
invariant-loop-k l = Stepping l.form (version_of l.version) l.h l.initial.kept l.given l.initial.out l.initial.progress l.kept l.out l.progress l.k
