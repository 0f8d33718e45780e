use Rattle.entries.proofs.Calls.{due_counts}
use Rattle.std.proofs.Common.{rules}
use Rattle.entries.proofs.shown.has_due_counts.Goals as goal

pub returns-then-has_id : goal.returns-then-has_id
returns-then-has_id c = search (due_counts, rules)

pub returns-then-e-le-OTHER_TEXT : goal.returns-then-e-le-OTHER_TEXT
returns-then-e-le-OTHER_TEXT c = search (due_counts, rules)

pub returns-else-e-le-OTHER_TEXT : goal.returns-else-e-le-OTHER_TEXT
returns-else-e-le-OTHER_TEXT c = search (due_counts, rules)

pub returns-else-e-eq0 : goal.returns-else-e-eq0
returns-else-e-eq0 c = search (due_counts, rules)
