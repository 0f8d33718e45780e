use Rattle.std.proofs.Common.{rules}
use Rattle.house.proofs.Manys.{same_size, walk_start, walk_more, walks}
use Rattle.house.proofs.many.put_all.Goals as goal

pub loop-k-init : goal.loop-k-init
loop-k-init c = walk_start _ _ _ _ _ _ _ _ _ (search rules) (search rules) (search rules) (search rules)

pub loop-k-smaller-then-is_under : goal.loop-k-smaller-then-is_under
loop-k-smaller-then-is_under c = search (walks, rules)

pub loop-k-preserved-then-is_under : goal.loop-k-preserved-then-is_under
loop-k-preserved-then-is_under c = search (walk_more, rules)

pub loop-k-smaller : goal.loop-k-smaller
loop-k-smaller c = search (walks, rules)

pub loop-k-preserved : goal.loop-k-preserved
loop-k-preserved c = search (walks, rules)

pub shape_of-kept : goal.shape_of-kept
shape_of-kept c = search (same_size, rules)

pub shape_of-out : goal.shape_of-out
shape_of-out c = search (same_size, rules)

pub returns : goal.returns
returns c = search (walks, rules)
