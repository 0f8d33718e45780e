use Rattle.ids.proofs.Seen.{Ids}
use Rattle.ids.proofs.scan.id_seen.Given as goal

abbrev pub invariant-loop-k : goal.invariant-loop-k
invariant-loop-k l = Ids l.h l.prefix l.kind l.id l.quoted l.form l.kept l.k
