use Rattle.values.specs.Value.{is_escapable}
use Rattle.values.proofs.Seeks.{Seeking}
use Rattle.values.proofs.string.has_escapable.Given as goal

abbrev pub invariant-loop-b : goal.invariant-loop-b
invariant-loop-b l = Seeking is_escapable l.s l.found l.b-index
