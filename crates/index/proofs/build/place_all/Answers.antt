use Rattle.index.proofs.Building.{places, place_one, place_other}
use mathlib.Core.Path.{◌∙◌}
use Rattle.std.proofs.Common.{rules}
use Rattle.index.proofs.build.place_all.Goals as goal
use Rattle.index.proofs.build.place_all.Goals.{then-is_indexed, else-is_indexed}

pub loop-n-preserved : goal.loop-n-preserved
loop-n-preserved c = elim c.if-is_indexed.branch [
  | then-is_indexed w ↦ place_one c.loop-n.invariant c.count-entries.ensures c.loop-n-test.true c.get-e.ensures c.is_indexed.ensures w.if-is_indexed.true (w.index-is ∙ w.put_entry.ensures) c.if-is_indexed.auto.index
  | else-is_indexed w ↦ rw w.index-is (place_other c.loop-n.invariant c.count-entries.ensures c.loop-n-test.true c.get-e.ensures c.is_indexed.ensures w.if-is_indexed.false)
]

pub returns : goal.returns
returns c = search (places, rules)
