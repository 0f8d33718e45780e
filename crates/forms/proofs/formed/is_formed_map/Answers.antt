use Rattle.forms.proofs.Stands.{maps}
use Rattle.std.proofs.Common.{rules}
use Rattle.forms.proofs.formed.is_formed_map.Goals as goal

pub returns-then-map : goal.returns-then-map
returns-then-map c = search (maps, rules)

pub is_bare-requires : goal.is_bare-requires
is_bare-requires c = search (maps, rules)

pub returns-then-is_bare : goal.returns-then-is_bare
returns-then-is_bare c = search (maps, rules)

pub pass-first-requires : goal.pass-first-requires
pass-first-requires c = search (maps, rules)

pub pass_known-requires : goal.pass_known-requires
pass_known-requires c = search (maps, rules)

pub enum_known-c : goal.enum_known-c
enum_known-c c = search (maps, rules)

pub pass_others-requires : goal.pass_others-requires
pass_others-requires c = search (maps, rules)

pub enum_told-1 : goal.enum_told-1
enum_told-1 c = search (maps, rules)

pub returns-in-More : goal.returns-in-More
returns-in-More c = search (maps, rules)

pub returns-in-Done : goal.returns-in-Done
returns-in-Done c = search (maps, rules)

pub returns-in-Other : goal.returns-in-Other
returns-in-Other c = search (maps, rules)
