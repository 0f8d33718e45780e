use Rattle.entries.proofs.Calls.{said}
use Rattle.std.proofs.Common.{rules}
use Rattle.entries.proofs.shown.says_no_id.Goals as goal

pub returns-then-not-e : goal.returns-then-not-e
returns-then-not-e c = search (said, rules)

pub returns-else-not-e : goal.returns-else-not-e
returns-else-not-e c = search (said, rules)
