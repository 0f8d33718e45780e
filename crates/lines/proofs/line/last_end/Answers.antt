use Rattle.std.proofs.Common.{rules}
use Rattle.lines.proofs.Ends.{seeks}
use Rattle.lines.proofs.line.last_end.Goals as goal

pub returns-then-h-at : goal.returns-then-h-at
returns-then-h-at c = search (seeks, rules)

pub returns-then-not-has : goal.returns-then-not-has
returns-then-not-has c = search (seeks, rules)

pub loop-last-init : goal.loop-last-init
loop-last-init c = search (seeks, rules)

pub returns-then-h-last-eq10 : goal.returns-then-h-last-eq10
returns-then-h-last-eq10 c = search (seeks, rules)

pub loop-last-preserved : goal.loop-last-preserved
loop-last-preserved c = search (seeks, rules)

pub returns : goal.returns
returns c = search (seeks, rules)
