use Rattle.std.proofs.Common.{rules}
use Rattle.house.proofs.Manys.{same_size, step_start, steps}
use Rattle.house.proofs.many.put_each.Goals as goal

pub loop-k-init : goal.loop-k-init
loop-k-init c = step_start _ _ _ _ _ _ _ (search rules) (search rules) (search rules)

pub loop-k-smaller : goal.loop-k-smaller
loop-k-smaller c = search (steps, rules)

pub loop-k-preserved : goal.loop-k-preserved
loop-k-preserved c = search (steps, rules)

pub shape_of-kept : goal.shape_of-kept
shape_of-kept c = search (same_size, rules)

pub shape_of-out : goal.shape_of-out
shape_of-out c = search (same_size, rules)

pub returns : goal.returns
returns c = search (steps, rules)
