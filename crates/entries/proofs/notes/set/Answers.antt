use Rattle.std.proofs.Common.{rules}
use Rattle.entries.proofs.Noted.{notings}
use Rattle.entries.proofs.notes.set.Goals as goal

pub count-requires : goal.count-requires
count-requires c = search (notings, rules)

pub shape_of-table-then-count-n : goal.shape_of-table-then-count-n
shape_of-table-then-count-n c = search (notings, rules)

pub returns-then-count-n : goal.returns-then-count-n
returns-then-count-n c = search (notings, rules)

pub words-requires : goal.words-requires
words-requires c = search (notings, rules)

pub overflow_mul-at : goal.overflow_mul-at
overflow_mul-at c = search (notings, rules)

pub offset_bounds-table-at : goal.offset_bounds-table-at
offset_bounds-table-at c = search (notings, rules)

pub bounds-table-at : goal.bounds-table-at
bounds-table-at c = search (notings, rules)

pub overflow_add-two : goal.overflow_add-two
overflow_add-two c = search (notings, rules)

pub offset_bounds-table-at-2 : goal.offset_bounds-table-at-2
offset_bounds-table-at-2 c = search (notings, rules)

pub bounds-table-at-2 : goal.bounds-table-at-2
bounds-table-at-2 c = search (notings, rules)

pub with_note-requires : goal.with_note-requires
with_note-requires c = search (notings, rules)

pub offset_bounds-table-at-3 : goal.offset_bounds-table-at-3
offset_bounds-table-at-3 c = search (notings, rules)

pub bounds-table-at-3 : goal.bounds-table-at-3
bounds-table-at-3 c = search (notings, rules)

pub with_note-requires-2 : goal.with_note-requires-2
with_note-requires-2 c = search (notings, rules)

pub overflow_add-table : goal.overflow_add-table
overflow_add-table c = search (notings, rules)

pub offset_bounds-table-at-4 : goal.offset_bounds-table-at-4
offset_bounds-table-at-4 c = search (notings, rules)

pub bounds-table-at-4 : goal.bounds-table-at-4
bounds-table-at-4 c = search (notings, rules)

pub shape_of-table : goal.shape_of-table
shape_of-table c = search (notings, rules)

pub returns : goal.returns
returns c = search (notings, rules)
