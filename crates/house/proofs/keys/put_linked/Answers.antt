use Rattle.house.proofs.Others.{put_start, put_one, put_more, put_other, one_less, next_less, see_less}
use Rattle.house.proofs.Runs.{run_here}
use Rattle.std.proofs.Common.{rules}
use Rattle.house.proofs.Others.{puttings}
use Rattle.house.proofs.keys.put_linked.Goals as goal

pub loop-k-init : goal.loop-k-init
loop-k-init c = put_start _ _ _ _ _ _ _ _ _ _ _ _ (search rules) (search rules) (search rules)

pub count-requires : goal.count-requires
count-requires c = search (puttings, rules)

pub get-e-requires : goal.get-e-requires
get-e-requires c = search (puttings, rules)

pub overflow_add-near : goal.overflow_add-near
overflow_add-near c = search (puttings, rules)

pub is_under-requires : goal.is_under-requires
is_under-requires c = search (puttings, rules)

pub next_of-next-requires : goal.next_of-next-requires
next_of-next-requires c = search (puttings, rules)

pub line_part-line-requires : goal.line_part-line-requires
line_part-line-requires c = search (puttings, rules)

pub put_entry-progress-requires : goal.put_entry-progress-requires
put_entry-progress-requires c = search (puttings, rules)

pub loop-k-smaller-then-near-next : goal.loop-k-smaller-then-near-next
loop-k-smaller-then-near-next c = one_less (run_here _ _ c.count.ensures c.loop-k-test.true) c.next_of-next.ensures

pub loop-k-preserved-then-near-next : goal.loop-k-preserved-then-near-next
loop-k-preserved-then-near-next c = put_one c.loop-k.invariant c.count.ensures c.loop-k-test.true c.get-e.ensures c.is_under.ensures c.if-is_under.true c.line_part-line.ensures c.put_entry-progress.ensures (search rules) c.next_of-next.ensures

pub find_run-run-requires : goal.find_run-run-requires
find_run-run-requires c = search (puttings, rules)

pub part-text-requires : goal.part-text-requires
part-text-requires c = search (puttings, rules)

pub overflow_sub-run : goal.overflow_sub-run
overflow_sub-run c = search (puttings, rules)

pub put_run-progress-requires : goal.put_run-progress-requires
put_run-progress-requires c = search (puttings, rules)

pub next_of-k-requires : goal.next_of-k-requires
next_of-k-requires c = search (puttings, rules)

pub loop-k-smaller-else-near-next : goal.loop-k-smaller-else-near-next
loop-k-smaller-else-near-next c = next_less c.find_run-run.ensures (run_here _ _ c.count.ensures c.loop-k-test.true) c.next_of-k.ensures

pub loop-k-preserved-else-near-next : goal.loop-k-preserved-else-near-next
loop-k-preserved-else-near-next c = put_more c.loop-k.invariant c.count.ensures c.loop-k-test.true c.get-e.ensures c.is_under.ensures c.if-is_under.true c.find_run-run.ensures c.part-text.ensures
    c.put_run-progress.ensures (search rules) c.next_of-k.ensures

pub pass_other-k-requires : goal.pass_other-k-requires
pass_other-k-requires c = search (puttings, rules)

pub loop-k-smaller : goal.loop-k-smaller
loop-k-smaller c = see_less (run_here _ _ c.count.ensures c.loop-k-test.true) c.pass_other-k.ensures

pub loop-k-preserved : goal.loop-k-preserved
loop-k-preserved c = put_other c.loop-k.invariant c.count.ensures c.loop-k-test.true c.get-e.ensures c.is_under.ensures c.if-is_under.false c.pass_other-k.ensures

pub shape_of-out : goal.shape_of-out
shape_of-out c = search (puttings, rules)

pub returns : goal.returns
returns c = search (puttings, rules)
