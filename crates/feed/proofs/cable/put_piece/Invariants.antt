use Rattle.feed.proofs.Calls.{Copying}
use Rattle.feed.proofs.cable.put_piece.Given as goal

abbrev pub invariant-loop-k : goal.invariant-loop-k
invariant-loop-k l = Copying l.initial.buffer l.piece l.buffer l.held l.k
