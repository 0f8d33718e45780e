use Rattle.view.proofs.Walks.{counts}
use Rattle.std.proofs.Common.{rules}
use Rattle.view.proofs.count_from.Goals as goal

pub loop-at-init : goal.loop-at-init
loop-at-init c = search (counts, rules)

pub loop-at-smaller : goal.loop-at-smaller
loop-at-smaller c = search (counts, rules)

pub loop-at-preserved : goal.loop-at-preserved
loop-at-preserved c = search (counts, rules)

pub returns-in-None : goal.returns-in-None
returns-in-None c = search (counts, rules)
