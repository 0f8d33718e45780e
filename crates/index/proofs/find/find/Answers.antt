use Rattle.index.proofs.Finding.{finds}
use Rattle.std.proofs.Common.{rules}
use Rattle.index.proofs.find.find.Goals as goal

pub is_indexed-requires : goal.is_indexed-requires
is_indexed-requires c = search (finds, rules)

pub returns-then-not-is_indexed : goal.returns-then-not-is_indexed
returns-then-not-is_indexed c = search (finds, rules)

pub returns-then-places-eq0 : goal.returns-then-places-eq0
returns-then-places-eq0 c = search (finds, rules)

pub overflow_cast-kind : goal.overflow_cast-kind
overflow_cast-kind c = search (finds, rules)

pub first_place-first-requires : goal.first_place-first-requires
first_place-first-requires c = search (finds, rules)

pub overflow_cast-kind-2 : goal.overflow_cast-kind-2
overflow_cast-kind-2 c = search (finds, rules)

pub walk-requires : goal.walk-requires
walk-requires c = search (finds, rules)

pub returns : goal.returns
returns c = search (finds, rules)
