use Rattle.ids.proofs.Aheads.{names_noted}
use Rattle.std.proofs.Common.{rules}
use Rattle.ids.proofs.ahead.note_names.Goals as goal

pub key_hash-key-requires : goal.key_hash-key-requires
key_hash-key-requires c = search (names_noted, rules)

pub note_id-requires : goal.note_id-requires
note_id-requires c = search (names_noted, rules)

pub shape_of-notes-then-e-lt-OTHER_MAP : goal.shape_of-notes-then-e-lt-OTHER_MAP
shape_of-notes-then-e-lt-OTHER_MAP c = search (names_noted, rules)

pub returns-then-e-lt-OTHER_MAP : goal.returns-then-e-lt-OTHER_MAP
returns-then-e-lt-OTHER_MAP c = search (names_noted, rules)

pub note_key-requires : goal.note_key-requires
note_key-requires c = search (names_noted, rules)

pub note_id-requires-then-e-eq-OTHER_MAP : goal.note_id-requires-then-e-eq-OTHER_MAP
note_id-requires-then-e-eq-OTHER_MAP c = search (names_noted, rules)

pub shape_of-notes-then-e-eq-OTHER_MAP : goal.shape_of-notes-then-e-eq-OTHER_MAP
shape_of-notes-then-e-eq-OTHER_MAP c = search (names_noted, rules)

pub returns-then-e-eq-OTHER_MAP : goal.returns-then-e-eq-OTHER_MAP
returns-then-e-eq-OTHER_MAP c = search (names_noted, rules)

pub shape_of-notes-else-e-eq-OTHER_MAP : goal.shape_of-notes-else-e-eq-OTHER_MAP
shape_of-notes-else-e-eq-OTHER_MAP c = search (names_noted, rules)

pub returns-else-e-eq-OTHER_MAP : goal.returns-else-e-eq-OTHER_MAP
returns-else-e-eq-OTHER_MAP c = search (names_noted, rules)
