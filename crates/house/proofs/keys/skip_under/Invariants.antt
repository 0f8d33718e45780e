use Rattle.house.specs.Links.{SkipsUnder}
use Rattle.house.proofs.keys.skip_under.Given as goal

abbrev pub invariant-loop-k : goal.invariant-loop-k
invariant-loop-k l = SkipsUnder l.form l.h l.kept l.prefix l.start l.k
