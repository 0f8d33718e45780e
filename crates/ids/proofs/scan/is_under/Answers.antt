use Rattle.ids.proofs.Seen.{unders}
use Rattle.std.proofs.Common.{rules}
use Rattle.ids.proofs.scan.is_under.Goals as goal

pub returns-then-kind-lt-OTHER_MAP : goal.returns-then-kind-lt-OTHER_MAP
returns-then-kind-lt-OTHER_MAP c = search (unders, rules)

pub returns-else-kind-lt-OTHER_MAP : goal.returns-else-kind-lt-OTHER_MAP
returns-else-kind-lt-OTHER_MAP c = search (unders, rules)
