use Rattle.std.proofs.Common.{rules}
use Rattle.values.proofs.Tests.{halves}
use Rattle.values.proofs.cursor.is_escapable.Goals as goal

pub returns-then-b-eq34 : goal.returns-then-b-eq34
returns-then-b-eq34 c = search (halves, rules)

pub returns-else-b-eq34 : goal.returns-else-b-eq34
returns-else-b-eq34 c = search (halves, rules)
