use Rattle.house.proofs.Chainings.{Chaining}
use Rattle.house.proofs.chains.link_by.Given as goal

abbrev pub invariant-loop-k : goal.invariant-loop-k
invariant-loop-k l = Chaining l.form l.h l.slots l.from l.initial.heads l.initial.kept l.heads l.kept l.k
