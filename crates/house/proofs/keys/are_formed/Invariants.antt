use Rattle.records.specs.Formats.{version_of}
use Rattle.house.proofs.Looks.{Forming}
use Rattle.house.proofs.keys.are_formed.Given as goal

abbrev pub invariant-loop-k : goal.invariant-loop-k
invariant-loop-k l = Forming l.form (version_of l.version) l.h l.kept l.k
