use Rattle.std.proofs.Common.{rules}
use Rattle.values.proofs.Tests.{halves}
use Rattle.values.proofs.string.is_stop.Goals as goal

pub returns-then-b-eq44 : goal.returns-then-b-eq44
returns-then-b-eq44 c = search (halves, rules)

pub returns-else-b-eq44 : goal.returns-else-b-eq44
returns-else-b-eq44 c = search (halves, rules)
