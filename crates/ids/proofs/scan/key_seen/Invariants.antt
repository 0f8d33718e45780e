use Rattle.ids.proofs.Seen.{Keys}
use Rattle.ids.proofs.scan.key_seen.Given as goal

abbrev pub invariant-loop-k : goal.invariant-loop-k
invariant-loop-k l = Keys l.h l.prefix l.kind l.form l.kept l.k
