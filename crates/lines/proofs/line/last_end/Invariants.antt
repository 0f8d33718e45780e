use Rattle.lines.proofs.Ends.{Seeking}
use Rattle.lines.proofs.line.last_end.Given as goal

abbrev pub invariant-loop-last : goal.invariant-loop-last
invariant-loop-last l = Seeking l.h l.last
