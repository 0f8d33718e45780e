use Rattle.std.proofs.Common.{rules}
use Rattle.values.proofs.Values.{closes}
use Rattle.values.proofs.string.find_closing.Goals as goal
use Rattle.values.proofs.string.find_closing.Goals.{then-escaped+else-not-is_escapable, else-escaped+else-b-eq34}

pub returns-then-not-is_escapable : goal.returns-then-not-is_escapable
returns-then-not-is_escapable c = search (closes, rules)

pub returns-then-b-eq34 : goal.returns-then-b-eq34
returns-then-b-eq34 c = search (closes, rules)

pub loop-at-preserved : goal.loop-at-preserved
loop-at-preserved c = elim c.if-escaped.branch [
  | then-escaped+else-not-is_escapable w ↦ rw w.escaped-is (search (closes, rules))
  | else-escaped+else-b-eq34 w ↦ rw w.escaped-is (search (closes, rules))
]

pub returns : goal.returns
returns c = search (closes, rules)
