use Rattle.records.specs.Formats.{version_of}
use Rattle.house.proofs.Weights.{Summing}
use Rattle.house.proofs.sizes.sum_lines.Given as goal

abbrev pub invariant-loop-k : goal.invariant-loop-k
invariant-loop-k l = Summing l.form l.limit (version_of l.version) l.h l.kept l.sum l.k
