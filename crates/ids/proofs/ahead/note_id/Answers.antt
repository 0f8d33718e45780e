use Rattle.ids.proofs.Aheads.{names_noted}
use Rattle.std.proofs.Common.{rules}
use Rattle.ids.proofs.ahead.note_id.Goals as goal

pub id_part-requires : goal.id_part-requires
id_part-requires c = search (names_noted, rules)

pub note_text-requires : goal.note_text-requires
note_text-requires c = search (names_noted, rules)

pub id_hash-requires : goal.id_hash-requires
id_hash-requires c = search (names_noted, rules)

pub note_hash-requires : goal.note_hash-requires
note_hash-requires c = search (names_noted, rules)

pub shape_of-notes : goal.shape_of-notes
shape_of-notes c = search (names_noted, rules)

pub returns : goal.returns
returns c = search (names_noted, rules)
