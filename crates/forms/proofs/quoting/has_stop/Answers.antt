use Rattle.forms.proofs.Quotes.{stops}
use Rattle.std.proofs.Common.{rules}
use Rattle.forms.proofs.quoting.has_stop.Goals as goal

pub loop-b-init : goal.loop-b-init
loop-b-init c = search (stops, rules)

pub next_unescaped-requires : goal.next_unescaped-requires
next_unescaped-requires c = search (stops, rules)

pub is_stop-requires : goal.is_stop-requires
is_stop-requires c = search (stops, rules)

pub returns-then-is_stop : goal.returns-then-is_stop
returns-then-is_stop c = search (stops, rules)

pub loop-b-smaller : goal.loop-b-smaller
loop-b-smaller c = search (stops, rules)

pub loop-b-preserved : goal.loop-b-preserved
loop-b-preserved c = search (stops, rules)

pub returns : goal.returns
returns c = search (stops, rules)
