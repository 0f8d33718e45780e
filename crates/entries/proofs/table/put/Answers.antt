use native.Mathlib.Omega.{arith}
use lib.ListN.{length-set}
use Rattle.entries.proofs.Tables.{puts, some_next, words_inside, some_words, third_inside}
use Rattle.std.proofs.Common.{rules}
use Rattle.entries.proofs.table.put.Goals as goal

pub returns-then-count-n : goal.returns-then-count-n
returns-then-count-n c = search (puts, rules)

pub overflow_mul-at : goal.overflow_mul-at
overflow_mul-at c = let i = words_inside _ _ _ c.count.ensures c.words.ensures c.if-count-n.false in
    let s = some_words c.args.form in
    omega arith

pub offset_bounds-table-at : goal.offset_bounds-table-at
offset_bounds-table-at c = let i = words_inside _ _ _ c.count.ensures c.words.ensures c.if-count-n.false in
    let s = some_words c.args.form in
    omega arith

pub bounds-table-at : goal.bounds-table-at
bounds-table-at c = let i = words_inside _ _ _ c.count.ensures c.words.ensures c.if-count-n.false in
    let s = some_words c.args.form in
    omega arith

pub overflow_add-table : goal.overflow_add-table
overflow_add-table c = let i = words_inside _ _ _ c.count.ensures c.words.ensures c.if-count-n.false in
    let s = some_words c.args.form in
    omega arith

pub offset_bounds-table-at-2 : goal.offset_bounds-table-at-2
offset_bounds-table-at-2 c = let i = words_inside _ _ _ c.count.ensures c.words.ensures c.if-count-n.false in
    let s = some_words c.args.form in
    omega arith

pub bounds-table-at-2 : goal.bounds-table-at-2
bounds-table-at-2 c = let i = words_inside _ _ _ c.count.ensures c.words.ensures c.if-count-n.false in
    let s = some_words c.args.form in
    simp length-set (omega arith)

pub overflow_add-table-in-Second : goal.overflow_add-table-in-Second
overflow_add-table-in-Second c = let i = third_inside _ _ _ c.count.ensures c.words.ensures c.if-count-n.false c.in-Second.is in
    omega arith

pub offset_bounds-table-at-in-Second : goal.offset_bounds-table-at-in-Second
offset_bounds-table-at-in-Second c = let i = third_inside _ _ _ c.count.ensures c.words.ensures c.if-count-n.false c.in-Second.is in
    omega arith

pub bounds-table-at-in-Second : goal.bounds-table-at-in-Second
bounds-table-at-in-Second c = let i = third_inside _ _ _ c.count.ensures c.words.ensures c.if-count-n.false c.in-Second.is in
    simp length-set (omega arith)

pub returns-in-First : goal.returns-in-First
returns-in-First c = let i = words_inside _ _ _ c.count.ensures c.words.ensures c.if-count-n.false in
    let s = some_words c.args.form in
    record { room = search (puts, rules); table = search (puts, rules); next = some_next _ (omega arith) }

pub returns-in-Second : goal.returns-in-Second
returns-in-Second c = let i = words_inside _ _ _ c.count.ensures c.words.ensures c.if-count-n.false in
    let s = some_words c.args.form in
    record { room = search (puts, rules); table = search (puts, rules); next = some_next _ (omega arith) }
