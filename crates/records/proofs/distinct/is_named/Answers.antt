use Rattle.records.proofs.Distincts.{names}
use Rattle.std.proofs.Common.{rules}
use Rattle.records.proofs.distinct.is_named.Goals as goal

pub name_hash-hash-requires : goal.name_hash-hash-requires
name_hash-hash-requires c = search (names, rules)

pub is_met-requires : goal.is_met-requires
is_met-requires c = search (names, rules)

pub returns-then-not-is_met : goal.returns-then-not-is_met
returns-then-not-is_met c = search (names, rules)

pub wide_step-requires : goal.wide_step-requires
wide_step-requires c = search (names, rules)

pub meet_hash-requires : goal.meet_hash-requires
meet_hash-requires c = search (names, rules)

pub shape_of-marks-then-not-meet_hash : goal.shape_of-marks-then-not-meet_hash
shape_of-marks-then-not-meet_hash c = search (names, rules)

pub returns-then-not-meet_hash : goal.returns-then-not-meet_hash
returns-then-not-meet_hash c = search (names, rules)

pub has_key-requires : goal.has_key-requires
has_key-requires c = search (names, rules)

pub shape_of-marks : goal.shape_of-marks
shape_of-marks c = search (names, rules)

pub returns : goal.returns
returns c = search (names, rules)
