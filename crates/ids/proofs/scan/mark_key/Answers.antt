use Rattle.ids.proofs.Markings.{namings}
use Rattle.std.proofs.Common.{rules}
use Rattle.ids.proofs.scan.mark_key.Goals as goal

pub is_sort_noted-requires : goal.is_sort_noted-requires
is_sort_noted-requires c = search (namings, rules)

pub returns-then-not-is_sort_noted : goal.returns-then-not-is_sort_noted
returns-then-not-is_sort_noted c = search (namings, rules)

pub key_hash-requires : goal.key_hash-requires
key_hash-requires c = search (namings, rules)

pub under_hash-hash-requires : goal.under_hash-hash-requires
under_hash-hash-requires c = search (namings, rules)

pub is_hash_noted-requires : goal.is_hash_noted-requires
is_hash_noted-requires c = search (namings, rules)

pub returns-then-not-is_hash_noted : goal.returns-then-not-is_hash_noted
returns-then-not-is_hash_noted c = search (namings, rules)

pub meet_hash-requires : goal.meet_hash-requires
meet_hash-requires c = search (namings, rules)

pub shape_of-marks : goal.shape_of-marks
shape_of-marks c = search (namings, rules)

pub returns : goal.returns
returns c = search (namings, rules)
