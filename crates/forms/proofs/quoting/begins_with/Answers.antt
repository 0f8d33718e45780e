use Rattle.forms.proofs.Quotes.{beginnings}
use Rattle.std.proofs.Common.{rules}
use Rattle.forms.proofs.quoting.begins_with.Goals as goal

pub next_unescaped-requires : goal.next_unescaped-requires
next_unescaped-requires c = search (beginnings, rules)

pub returns-in_default : goal.returns-in_default
returns-in_default c = search (beginnings, rules)

pub returns : goal.returns
returns c = search (beginnings, rules)
