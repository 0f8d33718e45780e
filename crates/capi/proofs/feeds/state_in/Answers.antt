use Rattle.capi.proofs.Pieces.{tos}
use Rattle.std.proofs.Common.{rules}
use Rattle.capi.proofs.feeds.state_in.Goals as goal

pub returns : goal.returns
returns c = search (tos, rules)
