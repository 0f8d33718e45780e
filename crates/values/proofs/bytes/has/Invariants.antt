use Rattle.values.specs.Bytes.{is}
use Rattle.values.proofs.Seeks.{Seeking}
use Rattle.values.proofs.bytes.has.Given as goal

abbrev pub invariant-loop-b : goal.invariant-loop-b
invariant-loop-b l = Seeking (is l.x) l.s l.found l.b-index
