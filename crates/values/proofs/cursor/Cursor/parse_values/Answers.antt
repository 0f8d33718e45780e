use Rattle.std.proofs.Common.{rules}
use Rattle.values.proofs.Values.{brackets}
use Rattle.values.proofs.cursor.Cursor.parse_values.Goals.{then-s-start-via-then-s-start, then-s-start-via-else-s-start+then-s-start-ne91}
use Rattle.values.proofs.cursor.Cursor.parse_values.Goals as goal

pub returns-then-s-start : goal.returns-then-s-start
returns-then-s-start c = elim c.then-s-start.branch [
  | then-s-start-via-then-s-start w ↦ search (brackets, rules)
  | then-s-start-via-else-s-start+then-s-start-ne91 w ↦ search (brackets, rules)
]

pub returns-then-s-close : goal.returns-then-s-close
returns-then-s-close c = search (brackets, rules)

pub returns : goal.returns
returns c = search (brackets, rules)
