use Rattle.std.proofs.Common.{rules}
use Rattle.ids.proofs.Markings.{noting_next, notings}
use Rattle.ids.proofs.scan.mark_noted.Goals as goal

pub is_quoted_noted-quoted-requires : goal.is_quoted_noted-quoted-requires
is_quoted_noted-quoted-requires c = search (notings, rules)

pub loop-k-init : goal.loop-k-init
loop-k-init c = search (notings, rules)

pub next_near-k-requires : goal.next_near-k-requires
next_near-k-requires c = search (notings, rules)

pub count-requires : goal.count-requires
count-requires c = search (notings, rules)

pub shape_of-marks-then-count-k : goal.shape_of-marks-then-count-k
shape_of-marks-then-count-k c = search (notings, rules)

pub returns-then-count-k : goal.returns-then-count-k
returns-then-count-k c = search (notings, rules)

pub get-e-requires : goal.get-e-requires
get-e-requires c = search (notings, rules)

pub mark_names-requires : goal.mark_names-requires
mark_names-requires c = search (notings, rules)

pub overflow_add-k : goal.overflow_add-k
overflow_add-k c = search (notings, rules)

pub loop-k-smaller : goal.loop-k-smaller
loop-k-smaller c = search (notings, rules)

pub loop-k-preserved : goal.loop-k-preserved
loop-k-preserved c = search (noting_next, c.loop-k, c.next_near-k.ensures, c.count.ensures, c.if-count-k, c.get-e.ensures, c.mark_names.ensures)
