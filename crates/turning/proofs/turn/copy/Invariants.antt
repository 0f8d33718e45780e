use Rattle.turning.specs.Turning.{way_of}
use Rattle.turning.proofs.Turns.{Copying}
use Rattle.turning.proofs.turn.copy.Given as goal

abbrev pub invariant-loop-n : goal.invariant-loop-n
invariant-loop-n l = Copying (way_of l.into) l.h l.source l.initial.target l.target l.n
