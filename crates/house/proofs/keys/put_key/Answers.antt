use Rattle.house.proofs.Runs.{runs}
use Rattle.house.proofs.Picks.{pick_start}
use Rattle.std.proofs.Common.{rules}
use Rattle.house.proofs.Picks.{pick_other, picks}
use Rattle.house.proofs.keys.put_key.Goals as goal

pub loop-k-init : goal.loop-k-init
loop-k-init c = pick_start _ _ _ _ _ _ _ _ (search rules) (search rules) (search rules)

pub count-requires : goal.count-requires
count-requires c = search (picks, runs, rules)

pub get-e-requires : goal.get-e-requires
get-e-requires c = search (picks, runs, rules)

pub is_under-requires : goal.is_under-requires
is_under-requires c = search (picks, runs, rules)

pub find_run-run-requires : goal.find_run-run-requires
find_run-run-requires c = search (picks, runs, rules)

pub part-text-requires : goal.part-text-requires
part-text-requires c = search (picks, runs, rules)

pub overflow_sub-run : goal.overflow_sub-run
overflow_sub-run c = search (picks, runs, rules)

pub put_run-progress-requires : goal.put_run-progress-requires
put_run-progress-requires c = search (picks, runs, rules)

pub loop-k-smaller-then-is_under : goal.loop-k-smaller-then-is_under
loop-k-smaller-then-is_under c = search (picks, runs, rules)

pub loop-k-preserved-then-is_under : goal.loop-k-preserved-then-is_under
loop-k-preserved-then-is_under c = search (picks, runs, rules)

pub overflow_add-k : goal.overflow_add-k
overflow_add-k c = search (picks, runs, rules)

pub loop-k-smaller : goal.loop-k-smaller
loop-k-smaller c = search (picks, runs, rules)

pub loop-k-preserved : goal.loop-k-preserved
loop-k-preserved c = pick_other c.loop-k.invariant c.count.ensures c.loop-k-test.true c.get-e.ensures c.is_under.ensures c.if-is_under.false

pub shape_of-out : goal.shape_of-out
shape_of-out c = search (picks, runs, rules)

pub returns : goal.returns
returns c = search (picks, runs, rules)
