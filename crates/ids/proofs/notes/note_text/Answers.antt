use Rattle.ids.proofs.Aheads.{texts}
use Rattle.std.proofs.Common.{rules}
use Rattle.ids.proofs.notes.note_text.Goals as goal

pub returns-then-quoted : goal.returns-then-quoted
returns-then-quoted c = search (texts, rules)

pub returns-then-text-ge8 : goal.returns-then-text-ge8
returns-then-text-ge8 c = search (texts, rules)

pub returns-else-text-ge8 : goal.returns-else-text-ge8
returns-else-text-ge8 c = search (texts, rules)
