use Rattle.columns.proofs.Names.{counts}
use Rattle.std.proofs.Common.{rules}
use Rattle.columns.proofs.header_line.count_samples.Goals as goal

pub loop-at-init : goal.loop-at-init
loop-at-init c = search (counts, rules)

pub returns-then-is_repeated : goal.returns-then-is_repeated
returns-then-is_repeated c = search (counts, rules)

pub returns-then-s-end : goal.returns-then-s-end
returns-then-s-end c = search (counts, rules)

pub loop-at-preserved : goal.loop-at-preserved
loop-at-preserved c = search (counts, rules)
