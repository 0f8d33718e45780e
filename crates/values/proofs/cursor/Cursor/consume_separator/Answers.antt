use Rattle.std.proofs.Common.{rules}
use Rattle.values.proofs.Fields.{separators}
use Rattle.values.proofs.cursor.Cursor.consume_separator.Goals.{else-at-s-via-then-at-s+else-s-at-eq44, else-at-s-via-else-at-s}
use Rattle.values.proofs.cursor.Cursor.consume_separator.Goals as goal

pub returns-then-s-at-eq44 : goal.returns-then-s-at-eq44
returns-then-s-at-eq44 c = search (separators, rules)

pub returns-else-at-s : goal.returns-else-at-s
returns-else-at-s c = elim c.else-at-s.branch [
  | else-at-s-via-then-at-s+else-s-at-eq44 w ↦ search (separators, rules)
  | else-at-s-via-else-at-s w ↦ search (separators, rules)
]
