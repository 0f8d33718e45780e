use Rattle.ids.proofs.Seen.{mays}
use Rattle.std.proofs.Common.{rules}
use Rattle.ids.proofs.scan.may_equal.Goals as goal

pub returns-else-other-eq0 : goal.returns-else-other-eq0
returns-else-other-eq0 c = search (mays, rules)

pub returns-else-other-id : goal.returns-else-other-id
returns-else-other-id c = search (mays, rules)
