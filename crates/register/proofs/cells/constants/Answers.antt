use Rattle.std.proofs.Common.{rules}
use Rattle.register.proofs.Walk.{fills}
use Rattle.register.proofs.cells.constants.Goals as goal

pub returns-in_default : goal.returns-in_default
returns-in_default c = search (fills, rules)

pub loop-well-preserved : goal.loop-well-preserved
loop-well-preserved c = search (fills, rules)

pub returns : goal.returns
returns c = search (fills, rules)
