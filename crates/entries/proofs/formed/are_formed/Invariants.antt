use Rattle.entries.proofs.Plains.{Forming}
use Rattle.entries.proofs.formed.are_formed.Given as goal

abbrev pub invariant-loop-n : goal.invariant-loop-n
invariant-loop-n l = Forming l.form l.h l.table l.from l.to l.n
