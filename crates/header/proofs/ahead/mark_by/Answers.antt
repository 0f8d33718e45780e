use Rattle.header.proofs.Aheads.{aheads}
use Rattle.std.proofs.Common.{rules}
use Rattle.header.proofs.ahead.mark_by.Goals as goal

pub note_lines-requires : goal.note_lines-requires
note_lines-requires c = search (aheads, rules)

pub mark_noted-requires : goal.mark_noted-requires
mark_noted-requires c = search (aheads, rules)

pub shape_of-notes : goal.shape_of-notes
shape_of-notes c = search (aheads, rules)

pub shape_of-marks : goal.shape_of-marks
shape_of-marks c = search (aheads, rules)

pub returns : goal.returns
returns c = search (aheads, rules)
