use Rattle.entries.proofs.Fields.{Stepping}
use Rattle.entries.proofs.shown.nth_field.Given as goal

abbrev pub invariant-loop-i : goal.invariant-loop-i
invariant-loop-i l = Stepping l.brackets l.s l.at l.n l.c.at l._i
