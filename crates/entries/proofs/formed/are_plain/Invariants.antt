use Rattle.entries.proofs.Plains.{Plaining}
use Rattle.entries.proofs.formed.are_plain.Given as goal

abbrev pub invariant-loop-n : goal.invariant-loop-n
invariant-loop-n l = Plaining l.size l.table l.from l.to l.room l.strays l.excess l.n
