use Rattle.ids.proofs.Aheads.{texts}
use Rattle.std.proofs.Common.{rules}
use Rattle.ids.proofs.notes.is_text_near.Goals as goal

pub returns-then-is_quoted_noted : goal.returns-then-is_quoted_noted
returns-then-is_quoted_noted c = search (texts, rules)

pub returns-else-is_quoted_noted : goal.returns-else-is_quoted_noted
returns-else-is_quoted_noted c = search (texts, rules)
