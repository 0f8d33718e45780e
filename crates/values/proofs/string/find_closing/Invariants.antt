use Rattle.values.proofs.Values.{Quoting}
use Rattle.values.proofs.string.find_closing.Given as goal

abbrev pub invariant-loop-at : goal.invariant-loop-at
invariant-loop-at l = Quoting l.s l.start l.escaped l.at
