use Rattle.columns.proofs.Names.{doubts}
use Rattle.std.proofs.Common.{rules}
use Rattle.columns.proofs.header_line.doubt_names.Goals as goal

pub loop-classes-init : goal.loop-classes-init
loop-classes-init c = search (doubts, rules)

pub returns-then-s-end : goal.returns-then-s-end
returns-then-s-end c = search (doubts, rules)

pub loop-classes-preserved : goal.loop-classes-preserved
loop-classes-preserved c = search (doubts, rules)
