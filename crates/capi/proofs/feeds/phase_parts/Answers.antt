use Rattle.capi.proofs.Pieces.{parts}
use Rattle.std.proofs.Common.{rules}
use Rattle.capi.proofs.feeds.phase_parts.Goals as goal

pub returns-in-Empty : goal.returns-in-Empty
returns-in-Empty c = search (parts, rules)

pub returns-in-Ready : goal.returns-in-Ready
returns-in-Ready c = search (parts, rules)

pub returns-in-Done : goal.returns-in-Done
returns-in-Done c = search (parts, rules)
