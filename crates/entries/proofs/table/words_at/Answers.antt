use native.Mathlib.Omega.{arith}
use Rattle.entries.proofs.Tables.{counts, words_inside}
use Rattle.std.proofs.Common.{rules}
use Rattle.entries.proofs.table.words_at.Goals as goal

pub returns-then-count-n : goal.returns-then-count-n
returns-then-count-n c = search (counts, rules)

pub overflow_mul-at : goal.overflow_mul-at
overflow_mul-at c = let i = words_inside _ _ _ c.count.ensures c.words-size.ensures c.if-count-n.false in omega arith

pub overflow_add-result : goal.overflow_add-result
overflow_add-result c = let i = words_inside _ _ _ c.count.ensures c.words-size.ensures c.if-count-n.false in omega arith

pub offset_bounds-table-at : goal.offset_bounds-table-at
offset_bounds-table-at c = let i = words_inside _ _ _ c.count.ensures c.words-size.ensures c.if-count-n.false in omega arith

pub slice_bounds-result-end-2 : goal.slice_bounds-result-end-2
slice_bounds-result-end-2 c = let i = words_inside _ _ _ c.count.ensures c.words-size.ensures c.if-count-n.false in omega arith

pub returns : goal.returns
returns c = search (counts, rules)
