use Rattle.forms.proofs.Quotes.{quotings}
use Rattle.std.proofs.Common.{rules}
use Rattle.forms.proofs.quoting.needs_quotes.Goals as goal

pub same-requires : goal.same-requires
same-requires c = search (quotings, rules)

pub returns-then-same : goal.returns-then-same
returns-then-same c = search (quotings, rules)

pub is_values-requires : goal.is_values-requires
is_values-requires c = search (quotings, rules)

pub is_closed-requires : goal.is_closed-requires
is_closed-requires c = search (quotings, rules)

pub returns-then-is_values : goal.returns-then-is_values
returns-then-is_values c = search (quotings, rules)

pub begins_with-requires : goal.begins_with-requires
begins_with-requires c = search (quotings, rules)

pub returns-then-begins_with : goal.returns-then-begins_with
returns-then-begins_with c = search (quotings, rules)

pub has_stop-requires : goal.has_stop-requires
has_stop-requires c = search (quotings, rules)

pub returns-else-begins_with : goal.returns-else-begins_with
returns-else-begins_with c = search (quotings, rules)
