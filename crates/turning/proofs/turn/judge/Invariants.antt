use Rattle.turning.specs.Turning.{way_of}
use Rattle.turning.proofs.Turns.{Judging}
use Rattle.turning.proofs.turn.judge.Given as goal

abbrev pub invariant-loop-n : goal.invariant-loop-n
invariant-loop-n l = Judging (way_of l.into) l.h l.source l.fit l.n
