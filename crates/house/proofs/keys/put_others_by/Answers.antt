use Rattle.house.proofs.Others.{other_start}
use Rattle.std.proofs.Common.{rules}
use Rattle.house.proofs.Others.{place_inside, others}
use Rattle.house.proofs.keys.put_others_by.Goals as goal

pub loop-k-init : goal.loop-k-init
loop-k-init c = other_start _ _ _ _ _ _ _ _ _ (search rules) (search rules) (search rules)

pub count-requires : goal.count-requires
count-requires c = search (others, rules)

pub put_if_first-progress-requires : goal.put_if_first-progress-requires
put_if_first-progress-requires c = search (others, rules)

pub skip_same-k-requires : goal.skip_same-k-requires
skip_same-k-requires c = place_inside _ _ c.count.ensures c.loop-k-test.true

pub loop-k-smaller : goal.loop-k-smaller
loop-k-smaller c = search (others, rules)

pub loop-k-preserved : goal.loop-k-preserved
loop-k-preserved c = search (others, rules)

pub shape_of-out : goal.shape_of-out
shape_of-out c = search (others, rules)

pub returns : goal.returns
returns c = search (others, rules)
