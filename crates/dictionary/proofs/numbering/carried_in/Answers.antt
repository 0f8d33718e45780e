use Rattle.std.proofs.Common.{rules}
use Rattle.dictionary.proofs.Pairs.{carried}
use Rattle.dictionary.proofs.numbering.carried_in.Goals as goal
use Rattle.dictionary.proofs.numbering.carried_in.Goals.{then-has_kind+in-Some, then-has_kind+in-None, else-has_kind}

pub loop-k-preserved : goal.loop-k-preserved
loop-k-preserved c =
    elim c.if-has_kind.branch [
      | then-has_kind+in-Some w ↦ rw (w.given-is, w.missing-is, w.lines-is) (search (carried, rules))
      | then-has_kind+in-None w ↦ rw (w.given-is, w.missing-is, w.lines-is) (search (carried, rules))
      | else-has_kind w ↦ rw (w.given-is, w.missing-is, w.lines-is) (search (carried, rules))
    ]

pub returns : goal.returns
returns c = search (carried, rules)
