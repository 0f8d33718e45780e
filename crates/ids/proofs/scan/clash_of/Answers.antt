use Rattle.ids.proofs.Seen.{all_clashes}
use Rattle.std.proofs.Common.{rules}
use Rattle.ids.proofs.scan.clash_of.Goals as goal

pub returns-then-mixed : goal.returns-then-mixed
returns-then-mixed c = search (all_clashes, rules)

pub returns-then-not-twice : goal.returns-then-not-twice
returns-then-not-twice c = search (all_clashes, rules)

pub returns-then-kind-lt-OTHER_MAP : goal.returns-then-kind-lt-OTHER_MAP
returns-then-kind-lt-OTHER_MAP c = search (all_clashes, rules)

pub returns : goal.returns
returns c = search (all_clashes, rules)
