use Rattle.index.proofs.Building.{puts}
use Rattle.std.proofs.Common.{rules}
use Rattle.index.proofs.build.put.Goals as goal

pub returns-then-index-at-eq0 : goal.returns-then-index-at-eq0
returns-then-index-at-eq0 c = search (puts, rules)

pub loop-i-preserved : goal.loop-i-preserved
loop-i-preserved c = search (puts, rules)

pub returns : goal.returns
returns c = search (puts, rules)
