use Rattle.ids.proofs.Aheads.{two_bits}
use Rattle.std.proofs.Common.{rules}
use Rattle.ids.proofs.notes.note_hash.Goals as goal

pub wide_step-once-requires : goal.wide_step-once-requires
wide_step-once-requires c = search (two_bits, rules)

pub note-requires : goal.note-requires
note-requires c = search (two_bits, rules)

pub wide_step-requires : goal.wide_step-requires
wide_step-requires c = search (two_bits, rules)

pub note-requires-2 : goal.note-requires-2
note-requires-2 c = search (two_bits, rules)

pub shape_of-notes : goal.shape_of-notes
shape_of-notes c = search (two_bits, rules)

pub returns : goal.returns
returns c = search (two_bits, rules)
