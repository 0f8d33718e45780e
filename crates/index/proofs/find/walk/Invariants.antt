use Rattle.index.specs.Index.{is_named}
use Rattle.index.proofs.Finding.{Walking}
use Rattle.index.proofs.find.walk.Given as goal

abbrev pub invariant-loop-k : goal.invariant-loop-k
invariant-loop-k l = Walking (is_named l.form l.h l.table l.kind l.id) l.index l.first l.at l.k
