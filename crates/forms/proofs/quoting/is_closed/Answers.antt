use Rattle.forms.proofs.Quotes.{closings}
use Rattle.std.proofs.Common.{rules}
use Rattle.forms.proofs.quoting.is_closed.Goals as goal

pub loop-b-init : goal.loop-b-init
loop-b-init c = search (closings, rules)

pub next_unescaped-requires : goal.next_unescaped-requires
next_unescaped-requires c = search (closings, rules)

pub enum_told-1 : goal.enum_told-1
enum_told-1 c = search (closings, rules)

pub next_unescaped-requires-then-b-eq93 : goal.next_unescaped-requires-then-b-eq93
next_unescaped-requires-then-b-eq93 c = search (closings, rules)

pub loop-b-smaller : goal.loop-b-smaller
loop-b-smaller c = search (closings, rules)

pub loop-b-preserved : goal.loop-b-preserved
loop-b-preserved c = search (closings, rules)

pub returns-in_default-matches : goal.returns-in_default-matches
returns-in_default-matches c = search (closings, rules)

pub returns : goal.returns
returns c = search (closings, rules)

pub returns-in-None : goal.returns-in-None
returns-in-None c = search (closings, rules)
