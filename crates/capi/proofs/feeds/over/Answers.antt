use Rattle.capi.proofs.Pieces.{tos}
use Rattle.std.proofs.Common.{rules}
use Rattle.capi.proofs.feeds.over.Goals as goal

pub returns-then-not-is_sound : goal.returns-then-not-is_sound
returns-then-not-is_sound c = search (tos, rules)

pub returns : goal.returns
returns c = search (tos, rules)
