use Rattle.std.proofs.Common.{rules}
use Rattle.season.proofs.Tallies.{counts}
use Rattle.season.proofs.tally.kinds.Goals as goal
use Rattle.season.proofs.tally.kinds.Goals.{then-e-ge-FILE_FORMAT+then-e-le-SAMPLE, else-e-ge-FILE_FORMAT, else-e-ge-FILE_FORMAT-via-then-e-ge-FILE_FORMAT+else-e-le-SAMPLE, else-e-ge-FILE_FORMAT-via-else-e-ge-FILE_FORMAT}

pub loop-n-init : goal.loop-n-init
loop-n-init c = search (counts, rules)

pub loop-n-preserved : goal.loop-n-preserved
loop-n-preserved c =
    elim c.if-e-ge-FILE_FORMAT.branch [
      | then-e-ge-FILE_FORMAT+then-e-le-SAMPLE w ↦ rw w.tally-is (search (counts, rules))
      | else-e-ge-FILE_FORMAT w ↦
          rw w.tally-is (elim w.else-e-ge-FILE_FORMAT.branch [
            | else-e-ge-FILE_FORMAT-via-then-e-ge-FILE_FORMAT+else-e-le-SAMPLE v ↦ search (counts, rules)
            | else-e-ge-FILE_FORMAT-via-else-e-ge-FILE_FORMAT v ↦ search (counts, rules)
          ])
    ]

pub returns : goal.returns
returns c = search (counts, rules)
