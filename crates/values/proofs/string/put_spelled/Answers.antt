use Rattle.std.proofs.Common.{rules}
use Rattle.values.proofs.Meanings.{spells}
use Rattle.values.proofs.string.put_spelled.Goals.{else-quote-via-then-quote+else-is_escapable, else-quote-via-else-quote}
use Rattle.values.proofs.string.put_spelled.Goals as goal

pub returns-then-is_escapable : goal.returns-then-is_escapable
returns-then-is_escapable c = search (spells, rules)

pub returns : goal.returns
returns c = elim c.else-quote.branch [
  | else-quote-via-then-quote+else-is_escapable w ↦ search (spells, rules)
  | else-quote-via-else-quote w ↦ search (spells, rules)
]
