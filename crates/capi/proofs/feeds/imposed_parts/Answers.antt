use Rattle.capi.proofs.Pieces.{parts}
use Rattle.std.proofs.Common.{rules}
use Rattle.capi.proofs.feeds.imposed_parts.Goals as goal

pub returns-in-None : goal.returns-in-None
returns-in-None c = search (parts, rules)

pub returns-in-Some : goal.returns-in-Some
returns-in-Some c = search (parts, rules)
