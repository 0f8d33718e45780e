use Rattle.ids.proofs.Seen.{sorts}
use Rattle.std.proofs.Common.{rules}
use Rattle.ids.proofs.names.other_sort.Goals as goal

pub returns-then-kind-eq-OTHER_MAP : goal.returns-then-kind-eq-OTHER_MAP
returns-then-kind-eq-OTHER_MAP c = search (sorts, rules)

pub returns-else-kind-eq-OTHER_MAP : goal.returns-else-kind-eq-OTHER_MAP
returns-else-kind-eq-OTHER_MAP c = search (sorts, rules)
