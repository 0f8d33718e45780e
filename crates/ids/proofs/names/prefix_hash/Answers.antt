use Rattle.ids.proofs.Seen.{prefixes}
use Rattle.std.proofs.Common.{rules}
use Rattle.ids.proofs.names.prefix_hash.Goals as goal

pub returns-then-kind-lt-OTHER_MAP : goal.returns-then-kind-lt-OTHER_MAP
returns-then-kind-lt-OTHER_MAP c = search (prefixes, rules)

pub returns : goal.returns
returns c = search (prefixes, rules)
