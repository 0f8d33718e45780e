use Rattle.ids.proofs.Seen.{keys_marked}
use Rattle.std.proofs.Common.{rules}
use Rattle.ids.proofs.scan.meet_key.Goals as goal

pub returns-then-kind-ge-OTHER_MAP : goal.returns-then-kind-ge-OTHER_MAP
returns-then-kind-ge-OTHER_MAP c = search (keys_marked, rules)

pub returns-else-kind-ge-OTHER_MAP : goal.returns-else-kind-ge-OTHER_MAP
returns-else-kind-ge-OTHER_MAP c = search (keys_marked, rules)
