use Rattle.forms.proofs.Bares.{Looking}
use Rattle.forms.proofs.formed.has_telling.Given as goal

abbrev pub invariant-loop-b : goal.invariant-loop-b
invariant-loop-b l = Looking l.s l.comma l.b-index
