use Rattle.ids.proofs.Aheads.{names_noted}
use Rattle.std.proofs.Common.{rules}
use Rattle.ids.proofs.ahead.note_key.Goals as goal

pub other_sort-rival-requires : goal.other_sort-rival-requires
other_sort-rival-requires c = search (names_noted, rules)

pub note_sort-requires : goal.note_sort-requires
note_sort-requires c = search (names_noted, rules)

pub under_hash-requires : goal.under_hash-requires
under_hash-requires c = search (names_noted, rules)

pub note_hash-requires : goal.note_hash-requires
note_hash-requires c = search (names_noted, rules)

pub shape_of-notes : goal.shape_of-notes
shape_of-notes c = search (names_noted, rules)

pub returns : goal.returns
returns c = search (names_noted, rules)
