use Rattle.lookup.proofs.Entries.{Seeking}
use Rattle.lookup.proofs.find.find_entry.Given as goal

abbrev pub invariant-loop-n : goal.invariant-loop-n
invariant-loop-n l = Seeking l.form l.h l.table l.key l.id l.n
