use Rattle.ids.proofs.Seen.{candidates}
use Rattle.std.proofs.Common.{rules}
use Rattle.ids.proofs.scan.is_candidate.Goals as goal

pub returns-then-may_equal : goal.returns-then-may_equal
returns-then-may_equal c = search (candidates, rules)

pub returns-else-may_equal : goal.returns-else-may_equal
returns-else-may_equal c = search (candidates, rules)
