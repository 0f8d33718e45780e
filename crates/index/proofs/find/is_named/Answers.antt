use Rattle.index.proofs.Finding.{names}
use Rattle.std.proofs.Common.{rules}
use Rattle.index.proofs.find.is_named.Goals as goal

pub get-e-requires : goal.get-e-requires
get-e-requires c = search (names, rules)

pub returns-then-e-kind : goal.returns-then-e-kind
returns-then-e-kind c = search (names, rules)

pub is_inside-requires : goal.is_inside-requires
is_inside-requires c = search (names, rules)

pub returns-then-not-is_inside : goal.returns-then-not-is_inside
returns-then-not-is_inside c = search (names, rules)

pub is_clear-requires : goal.is_clear-requires
is_clear-requires c = search (names, rules)

pub returns-then-not-is_clear : goal.returns-then-not-is_clear
returns-then-not-is_clear c = search (names, rules)

pub overflow_add-start : goal.overflow_add-start
overflow_add-start c = search (names, rules)

pub overflow_add-end : goal.overflow_add-end
overflow_add-end c = search (names, rules)

pub slice_bounds-text-count : goal.slice_bounds-text-count
slice_bounds-text-count c = search (names, rules)

pub slice_bounds-text-start : goal.slice_bounds-text-start
slice_bounds-text-start c = search (names, rules)

pub slice_bounds-text-end : goal.slice_bounds-text-end
slice_bounds-text-end c = search (names, rules)

pub same_meaning-requires : goal.same_meaning-requires
same_meaning-requires c = search (names, rules)

pub is_same-requires : goal.is_same-requires
is_same-requires c = search (names, rules)

pub returns : goal.returns
returns c = search (names, rules)

pub returns-then-e : goal.returns-then-e
returns-then-e c = search (names, rules)
