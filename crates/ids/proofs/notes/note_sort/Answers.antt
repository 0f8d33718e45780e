use Rattle.ids.proofs.Aheads.{sorts_noted}
use Rattle.std.proofs.Common.{rules}
use Rattle.ids.proofs.notes.note_sort.Goals as goal

pub overflow_mul-kind : goal.overflow_mul-kind
overflow_mul-kind c = search (sorts_noted, rules)

pub note-requires : goal.note-requires
note-requires c = search (sorts_noted, rules)

pub shape_of-notes : goal.shape_of-notes
shape_of-notes c = search (sorts_noted, rules)

pub returns : goal.returns
returns c = search (sorts_noted, rules)
