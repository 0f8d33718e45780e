use Rattle.std.proofs.Common.{rules}
use Rattle.house.proofs.Weights.{summings}
use Rattle.house.proofs.sizes.sum_lines.Goals as goal

pub loop-k-init : goal.loop-k-init
loop-k-init c = search (summings, rules)

pub loop-k-smaller : goal.loop-k-smaller
loop-k-smaller c = search (summings, rules)

pub loop-k-preserved : goal.loop-k-preserved
loop-k-preserved c = search (summings, rules)

pub returns : goal.returns
returns c = search (summings, rules)
