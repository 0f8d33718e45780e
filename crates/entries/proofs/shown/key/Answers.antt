use Rattle.entries.proofs.Calls.{shown_keys, key_end_fits}
use Rattle.std.proofs.Common.{rules}
use Rattle.entries.proofs.shown.key.Goals as goal

pub limits-limits-requires : goal.limits-limits-requires
limits-limits-requires c = search (shown_keys, rules)

pub entry_at-requires : goal.entry_at-requires
entry_at-requires c = search (shown_keys, rules)

pub enum_known-e : goal.enum_known-e
enum_known-e c = search (shown_keys, rules)

pub enum_told-1 : goal.enum_told-1
enum_told-1 c = search (shown_keys, rules)

pub returns-in_default : goal.returns-in_default
returns-in_default c = search (shown_keys, rules)

pub returns-then-not-limits : goal.returns-then-not-limits
returns-then-not-limits c = search (shown_keys, rules)

pub returns-then-e-gt-OTHER_TEXT : goal.returns-then-e-gt-OTHER_TEXT
returns-then-e-gt-OTHER_TEXT c = search (shown_keys, rules)

pub lies_inside-requires : goal.lies_inside-requires
lies_inside-requires c = search (shown_keys, rules)

pub returns-then-not-lies_inside : goal.returns-then-not-lies_inside
returns-then-not-lies_inside c = search (shown_keys, rules)

pub overflow_add-start : goal.overflow_add-start
overflow_add-start c = search (shown_keys, rules)

pub overflow_add-end : goal.overflow_add-end
overflow_add-end c = key_end_fits _ _ _ _ c.entry_at.ensures c.in-Some.is (search rules) c.lies_inside.ensures (rw c.if-not-lies_inside.false)

pub returns : goal.returns
returns c = search (shown_keys, rules)
