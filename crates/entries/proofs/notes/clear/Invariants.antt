use Rattle.entries.proofs.Noted.{Clearing}
use Rattle.entries.proofs.notes.clear.Given as goal

abbrev pub invariant-loop-w : goal.invariant-loop-w
invariant-loop-w l = Clearing l.initial.table l.table l.w-index
