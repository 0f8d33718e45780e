use Rattle.std.proofs.Common.{rules}
use Rattle.spelling.proofs.Listing.{walking}
use Rattle.spelling.proofs.odd.walk.Goals as goal
use Rattle.spelling.proofs.odd.walk.Goals.{then-odd, else-odd}

pub loop-n-preserved : goal.loop-n-preserved
loop-n-preserved c =
    elim c.if-odd.branch [
      | then-odd w ↦ rw (w.list-is, w.found-is) (search (walking, rules))
      | else-odd w ↦ rw (w.list-is, w.found-is) (search (walking, rules))
    ]

pub returns : goal.returns
returns c = search (walking, rules)

pub returns-in_default : goal.returns-in_default
returns-in_default c = search (walking, rules)
