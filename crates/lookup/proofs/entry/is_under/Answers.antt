use Rattle.lookup.proofs.Entries.{unders}
use Rattle.std.proofs.Common.{rules}
use Rattle.lookup.proofs.entry.is_under.Goals as goal

pub returns-in_default : goal.returns-in_default
returns-in_default c = search (unders, rules)

pub returns-then-not-has_id : goal.returns-then-not-has_id
returns-then-not-has_id c = search (unders, rules)

pub returns-then-same : goal.returns-then-same
returns-then-same c = search (unders, rules)

pub returns-else-same : goal.returns-else-same
returns-else-same c = search (unders, rules)
