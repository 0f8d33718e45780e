use Rattle.std.proofs.Common.{rules}
use Rattle.values.proofs.Fields.{keys}
use Rattle.values.proofs.cursor.Cursor.parse_key.Goals.{then-end-start-via-then-end-start, then-end-start-via-else-end-start+then-s-end, then-end-start-via-else-end-start+else-s-end+then-s-end-ne61}
use Rattle.values.proofs.cursor.Cursor.parse_key.Goals as goal

pub returns-then-end-start : goal.returns-then-end-start
returns-then-end-start c = elim c.then-end-start.branch [
  | then-end-start-via-then-end-start w ↦ search (keys, rules)
  | then-end-start-via-else-end-start+then-s-end w ↦ search (keys, rules)
  | then-end-start-via-else-end-start+else-s-end+then-s-end-ne61 w ↦ search (keys, rules)
]

pub returns : goal.returns
returns c = search (keys, rules)
