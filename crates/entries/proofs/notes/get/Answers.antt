use Rattle.std.proofs.Common.{rules}
use Rattle.entries.proofs.Noted.{notings}
use Rattle.entries.proofs.notes.get.Goals as goal

pub count-requires : goal.count-requires
count-requires c = search (notings, rules)

pub returns-then-count-n : goal.returns-then-count-n
returns-then-count-n c = search (notings, rules)

pub words-requires : goal.words-requires
words-requires c = search (notings, rules)

pub overflow_mul-at : goal.overflow_mul-at
overflow_mul-at c = search (notings, rules)

pub offset_bounds-table-at : goal.offset_bounds-table-at
offset_bounds-table-at c = search (notings, rules)

pub bounds-table-at : goal.bounds-table-at
bounds-table-at c = search (notings, rules)

pub overflow_mul-result : goal.overflow_mul-result
overflow_mul-result c = search (notings, rules)

pub overflow_add-result : goal.overflow_add-result
overflow_add-result c = search (notings, rules)

pub offset_bounds-table-at-2 : goal.offset_bounds-table-at-2
offset_bounds-table-at-2 c = search (notings, rules)

pub bounds-table-at-2 : goal.bounds-table-at-2
bounds-table-at-2 c = search (notings, rules)

pub overflow_add-result-2 : goal.overflow_add-result-2
overflow_add-result-2 c = search (notings, rules)

pub returns : goal.returns
returns c = search (notings, rules)
