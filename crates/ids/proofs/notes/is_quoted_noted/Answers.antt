use Rattle.ids.proofs.Aheads.{texts}
use Rattle.std.proofs.Common.{rules}
use Rattle.ids.proofs.notes.is_quoted_noted.Goals as goal

pub is_noted-requires : goal.is_noted-requires
is_noted-requires c = search (texts, rules)

pub returns : goal.returns
returns c = search (texts, rules)
