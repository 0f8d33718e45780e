use Rattle.std.proofs.Common.{rules}
use Rattle.values.proofs.Integers.{signs}
use Rattle.values.proofs.integer.integer.Goals.{else-sign-via-then-sign+then-s-gt0+else-s-eq43, else-sign-via-then-sign+else-s-gt0, else-sign-via-else-sign}
use Rattle.values.proofs.integer.integer.Goals as goal

pub returns-then-s-eq43 : goal.returns-then-s-eq43
returns-then-s-eq43 c = search (signs, rules)

pub returns : goal.returns
returns c = elim c.else-sign.branch [
  | else-sign-via-then-sign+then-s-gt0+else-s-eq43 w ↦ search (signs, rules)
  | else-sign-via-then-sign+else-s-gt0 w ↦ search (signs, rules)
  | else-sign-via-else-sign w ↦ search (signs, rules)
]
