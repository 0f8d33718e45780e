use Rattle.house.proofs.Runs.{Running}
use Rattle.house.proofs.run.find_run.Given as goal

abbrev pub invariant-loop-end : goal.invariant-loop-end
invariant-loop-end l = Running l.form l.h l.kept l.prefix l.limit l.k l.end l.stop
