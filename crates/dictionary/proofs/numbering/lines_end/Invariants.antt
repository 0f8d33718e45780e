use Rattle.dictionary.proofs.Pairs.{Ending}
use Rattle.dictionary.proofs.numbering.lines_end.Given as goal

abbrev pub invariant-loop-k : goal.invariant-loop-k
invariant-loop-k l = Ending l.form l.kept l.k
