use Rattle.capi.proofs.Pieces.{froms}
use Rattle.std.proofs.Common.{rules}
use Rattle.capi.proofs.feeds.phase_by.Goals as goal

pub returns-in-0 : goal.returns-in-0
returns-in-0 c = search (froms, rules)

pub returns-in-1 : goal.returns-in-1
returns-in-1 c = search (froms, rules)

pub returns-in-2 : goal.returns-in-2
returns-in-2 c = search (froms, rules)

pub returns-in_default : goal.returns-in_default
returns-in_default c = search (froms, rules)
