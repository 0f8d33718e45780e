use Rattle.forms.proofs.Spellings.{spellings}
use Rattle.std.proofs.Common.{rules}
use Rattle.forms.proofs.formed.is_spelled.Goals as goal

pub needs_quotes-requires : goal.needs_quotes-requires
needs_quotes-requires c = search (spellings, rules)

pub same-requires : goal.same-requires
same-requires c = search (spellings, rules)

pub is_plain-requires : goal.is_plain-requires
is_plain-requires c = search (spellings, rules)

pub returns-then-not-number-2 : goal.returns-then-not-number-2
returns-then-not-number-2 c = search (spellings, rules)

pub returns-else-not-number-2 : goal.returns-else-not-number-2
returns-else-not-number-2 c = search (spellings, rules)
