use Rattle.values.proofs.Sames.{pieces}
use Rattle.std.proofs.Common.{rules}
use Rattle.values.proofs.bytes.piece.Goals as goal

pub returns-then-s-start : goal.returns-then-s-start
returns-then-s-start c = search (pieces, rules)

pub returns-then-s-start-2 : goal.returns-then-s-start-2
returns-then-s-start-2 c = search (pieces, rules)

pub returns : goal.returns
returns c = search (pieces, rules)
