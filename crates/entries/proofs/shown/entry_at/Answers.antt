use Rattle.entries.proofs.Calls.{entries}
use Rattle.std.proofs.Common.{rules}
use Rattle.entries.proofs.shown.entry_at.Goals as goal

pub is_clear-requires : goal.is_clear-requires
is_clear-requires c = search (entries, rules)

pub returns-then-not-is_clear : goal.returns-then-not-is_clear
returns-then-not-is_clear c = search (entries, rules)

pub get-e-requires : goal.get-e-requires
get-e-requires c = search (entries, rules)

pub is_well_formed-requires : goal.is_well_formed-requires
is_well_formed-requires c = search (entries, rules)

pub returns-then-is_well_formed : goal.returns-then-is_well_formed
returns-then-is_well_formed c = search (entries, rules)

pub returns : goal.returns
returns c = search (entries, rules)
