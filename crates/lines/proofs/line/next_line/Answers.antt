use Rattle.lines.proofs.Lines.{ways}
use Rattle.std.proofs.Common.{rules}
use Rattle.lines.proofs.line.next_line.Goals.{else-lf-at-via-then-lf-at+else-h-lf-eq13, else-lf-at-via-else-lf-at}
use Rattle.lines.proofs.line.next_line.Goals as goal

pub returns-then-h-lf : goal.returns-then-h-lf
returns-then-h-lf c = search (ways, rules)

pub returns-then-h-lf-eq13 : goal.returns-then-h-lf-eq13
returns-then-h-lf-eq13 c = search (ways, rules)

pub returns : goal.returns
returns c = elim c.else-lf-at.branch [
  | else-lf-at-via-then-lf-at+else-h-lf-eq13 w ↦ search (ways, rules)
  | else-lf-at-via-else-lf-at w ↦ search (ways, rules)
]
