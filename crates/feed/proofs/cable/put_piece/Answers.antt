use Rattle.std.proofs.Common.{rules}
use Rattle.feed.proofs.Calls.{copyings}
use Rattle.feed.proofs.cable.put_piece.Goals as goal

pub loop-k-preserved : goal.loop-k-preserved
loop-k-preserved c = search (copyings, rules)

pub returns-clause-buffer : goal.returns-clause-buffer
returns-clause-buffer c = search (copyings, rules)
