use Rattle.columns.proofs.Names.{looks}
use Rattle.std.proofs.Common.{rules}
use Rattle.columns.proofs.header_line.is_among.Goals as goal

pub loop-at-init : goal.loop-at-init
loop-at-init c = search (looks, rules)

pub returns-then-names-end : goal.returns-then-names-end
returns-then-names-end c = search (looks, rules)

pub returns-then-same : goal.returns-then-same
returns-then-same c = search (looks, rules)

pub loop-at-preserved : goal.loop-at-preserved
loop-at-preserved c = search (looks, rules)
