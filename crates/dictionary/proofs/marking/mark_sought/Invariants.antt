use Rattle.dictionary.proofs.Markings.{Passed}
use Rattle.dictionary.proofs.marking.mark_sought.Given as goal

abbrev pub invariant-loop-at : goal.invariant-loop-at
invariant-loop-at l = Passed l.sought l.asked l.h l.kept l.initial.marks l.marks l.of l.at
