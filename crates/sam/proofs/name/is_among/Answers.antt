use Rattle.sam.proofs.Names.{amongs}
use Rattle.std.proofs.Common.{rules}
use Rattle.sam.proofs.name.is_among.Goals as goal
use Rattle.sam.proofs.name.is_among.Goals.{else-is_sequence-via-then-is_sequence+else-same, else-is_sequence-via-else-is_sequence}

pub returns-then-same : goal.returns-then-same
returns-then-same c = search (amongs, rules)

pub loop-at-preserved : goal.loop-at-preserved
loop-at-preserved c =
    elim c.else-is_sequence.branch [
      | else-is_sequence-via-then-is_sequence+else-same w ↦ search (amongs, rules)
      | else-is_sequence-via-else-is_sequence w ↦ search (amongs, rules)
    ]

pub returns : goal.returns
returns c = search (amongs, rules)
