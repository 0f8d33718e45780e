use native.Mathlib.Omega.{arith}
use Rattle.entries.proofs.Calls.{found_inside, shown_entries}
use Rattle.std.proofs.Common.{rules}
use Rattle.entries.proofs.shown.entry.Goals as goal

pub entry_at-requires : goal.entry_at-requires
entry_at-requires c = search (shown_entries, rules)

pub enum_known-e : goal.enum_known-e
enum_known-e c = search (shown_entries, rules)

pub enum_told-1 : goal.enum_told-1
enum_told-1 c = search (shown_entries, rules)

pub returns-in_default : goal.returns-in_default
returns-in_default c = search (shown_entries, rules)

pub overflow_add-end : goal.overflow_add-end
overflow_add-end c = let i = found_inside _ _ _ _ c.entry_at.ensures c.in-Some.is in
    omega arith

pub returns : goal.returns
returns c = search (shown_entries, rules)
