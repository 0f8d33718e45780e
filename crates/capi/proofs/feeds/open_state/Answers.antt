use Rattle.capi.proofs.Pieces.{froms}
use Rattle.std.proofs.Common.{rules}
use Rattle.capi.proofs.feeds.open_state.Goals as goal

pub returns : goal.returns
returns c = search (froms, rules)
