use Rattle.ids.proofs.Markings.{Nexting}
use Rattle.ids.proofs.scan.next_near.Given as goal

abbrev pub invariant-loop-k : goal.invariant-loop-k
invariant-loop-k l = Nexting l.h l.form l.kept l.notes l.first l.k
