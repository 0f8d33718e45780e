use Rattle.std.proofs.Common.{rules}
use Rattle.dictionary.proofs.Pairs.{progresses}
use Rattle.dictionary.proofs.numbering.number_lines.Goals as goal
use Rattle.dictionary.proofs.numbering.number_lines.Goals.{then-has_kind+in-Some, else-has_kind}

pub loop-k-init : goal.loop-k-init
loop-k-init c = search (progresses, rules)

pub number_line-requires-clause-counts : goal.number_line-requires-clause-counts
number_line-requires-clause-counts c = search (progresses, rules)

pub loop-k-preserved : goal.loop-k-preserved
loop-k-preserved c =
    elim c.if-has_kind.branch [
      | then-has_kind+in-Some w ↦ rw (w.out-is, w.count-is, w.lines-is) (search (progresses, rules))
      | else-has_kind w ↦ rw (w.out-is, w.count-is, w.lines-is) (search (progresses, rules))
    ]

pub returns : goal.returns
returns c = search (progresses, rules)

pub returns-in-None : goal.returns-in-None
returns-in-None c = search (progresses, rules)
