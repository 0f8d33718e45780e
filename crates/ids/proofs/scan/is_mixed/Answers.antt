use Rattle.ids.proofs.Seen.{mixes}
use Rattle.std.proofs.Common.{rules}
use Rattle.ids.proofs.scan.is_mixed.Goals as goal

pub returns-then-new-ge-OTHER_MAP : goal.returns-then-new-ge-OTHER_MAP
returns-then-new-ge-OTHER_MAP c = search (mixes, rules)

pub returns-else-new-ge-OTHER_MAP : goal.returns-else-new-ge-OTHER_MAP
returns-else-new-ge-OTHER_MAP c = search (mixes, rules)
