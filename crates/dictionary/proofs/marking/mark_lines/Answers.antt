use Rattle.std.proofs.Common.{rules}
use Rattle.dictionary.proofs.Markings.{markeds}
use Rattle.dictionary.proofs.marking.mark_lines.Goals as goal
use Rattle.dictionary.proofs.marking.mark_lines.Goals.{then-has_kind, else-has_kind}

pub loop-k-init : goal.loop-k-init
loop-k-init c = search (markeds, rules)

pub loop-k-preserved : goal.loop-k-preserved
loop-k-preserved c =
    elim c.if-has_kind.branch [
      | then-has_kind w ↦ rw (w.lines-is, w.marks-is, w.slots-is) (search (markeds, rules))
      | else-has_kind w ↦ rw (w.lines-is, w.marks-is, w.slots-is) (search (markeds, rules))
    ]
