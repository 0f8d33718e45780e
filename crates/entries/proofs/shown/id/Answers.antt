use native.Mathlib.Omega.{arith}
use Rattle.entries.proofs.Calls.{found_inside, shown_ids}
use Rattle.std.proofs.Common.{rules}
use Rattle.entries.proofs.shown.id.Goals as goal

pub entry_at-requires : goal.entry_at-requires
entry_at-requires c = search (shown_ids, rules)

pub enum_known-e : goal.enum_known-e
enum_known-e c = search (shown_ids, rules)

pub enum_told-1 : goal.enum_told-1
enum_told-1 c = search (shown_ids, rules)

pub returns-in_default : goal.returns-in_default
returns-in_default c = search (shown_ids, rules)

pub has_id-requires : goal.has_id-requires
has_id-requires c = search (shown_ids, rules)

pub returns-then-not-has_id : goal.returns-then-not-has_id
returns-then-not-has_id c = search (shown_ids, rules)

pub overflow_add-start : goal.overflow_add-start
overflow_add-start c = let i = found_inside _ _ _ _ c.entry_at.ensures c.in-Some.is in
    omega arith

pub overflow_add-end : goal.overflow_add-end
overflow_add-end c = let i = found_inside _ _ _ _ c.entry_at.ensures c.in-Some.is in
    omega arith

pub returns : goal.returns
returns c = search (shown_ids, rules)
