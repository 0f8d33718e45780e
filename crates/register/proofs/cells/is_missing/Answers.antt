use Rattle.std.proofs.Common.{rules}
use Rattle.register.proofs.Walk.{missings}
use Rattle.register.proofs.cells.is_missing.Goals as goal

pub loop-well-init : goal.loop-well-init
loop-well-init c = search (missings, rules)

pub returns-then-lines-well-eq0 : goal.returns-then-lines-well-eq0
returns-then-lines-well-eq0 c = search (missings, rules)

pub loop-well-preserved : goal.loop-well-preserved
loop-well-preserved c = search (missings, rules)

pub returns : goal.returns
returns c = search (missings, rules)
