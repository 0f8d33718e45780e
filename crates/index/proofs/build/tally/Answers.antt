use Rattle.index.proofs.Building.{tallies, tally_one, tally_other}
use Rattle.std.proofs.Common.{rules}
use Rattle.index.proofs.build.tally.Goals as goal
use Rattle.index.proofs.build.tally.Goals.{then-is_indexed, else-is_indexed}

pub loop-n-init : goal.loop-n-init
loop-n-init c = search (tallies, rules)

pub returns-in_default : goal.returns-in_default
returns-in_default c = search (tallies, rules)

pub loop-n-preserved : goal.loop-n-preserved
loop-n-preserved c = elim c.if-is_indexed.branch [
  | then-is_indexed w ↦ rw (w.count-is, w.last-is) (tally_one c.loop-n.invariant c.count-entries.ensures c.loop-n-test.true c.entry_at.result c.entry_at.ensures c.in-Some.is c.is_indexed.ensures w.if-is_indexed.true)
  | else-is_indexed w ↦ rw (w.count-is, w.last-is) (tally_other c.loop-n.invariant c.count-entries.ensures c.loop-n-test.true c.entry_at.result c.entry_at.ensures c.in-Some.is c.is_indexed.ensures w.if-is_indexed.false)
]

pub returns : goal.returns
returns c = search (tallies, rules)
