use Rattle.columns.proofs.Classes.{classings}
use Rattle.std.proofs.Common.{rules}
use Rattle.columns.proofs.header_line.doubt_classes.Goals as goal

pub loop-class-init : goal.loop-class-init
loop-class-init c = search (classings, rules)

pub loop-class-preserved : goal.loop-class-preserved
loop-class-preserved c = search (classings, rules)

pub returns : goal.returns
returns c = search (classings, rules)
