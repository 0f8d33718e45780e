use Rattle.house.proofs.Linkings.{Linking}
use Rattle.house.proofs.links.link_all.Given as goal

abbrev pub invariant-loop-k : goal.invariant-loop-k
invariant-loop-k l = Linking l.form l.h l.kept l.initial.heads l.initial.links l.heads l.links l.k
