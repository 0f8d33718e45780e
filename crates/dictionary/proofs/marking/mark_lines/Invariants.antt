use Rattle.dictionary.proofs.Markings.{Marked}
use Rattle.dictionary.proofs.marking.mark_lines.Given as goal

abbrev pub invariant-loop-k : goal.invariant-loop-k
invariant-loop-k l = Marked l.sought l.class l.asked l.h l.kept l.initial.marks l.marks l.initial.slots l.slots l.lines l.k
