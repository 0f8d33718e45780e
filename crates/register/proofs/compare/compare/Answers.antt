use Rattle.std.proofs.Common.{rules}
use Rattle.register.proofs.Differ.{compares, compare_more}
use Rattle.register.proofs.compare.compare.Goals as goal
use Rattle.register.proofs.compare.compare.Goals.{then-a-b, else-a-b}

pub loop-w-preserved : goal.loop-w-preserved
loop-w-preserved c =
    elim c.if-a-b.branch [
      | then-a-b w ↦ rw (w.wells-is, w.before-is, w.after-is, w.count-is) (compare_more c.loop-w.invariant (search rules) w.if-a-b.true)
      | else-a-b w ↦ rw (w.wells-is, w.before-is, w.after-is, w.count-is) (search (compares, rules))
    ]

pub returns : goal.returns
returns c = search (compares, rules)
