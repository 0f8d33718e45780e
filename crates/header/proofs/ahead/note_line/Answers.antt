use Rattle.header.proofs.Aheads.{line_notes}
use Rattle.std.proofs.Common.{rules}
use Rattle.header.proofs.ahead.note_line.Goals as goal

pub part-l-requires : goal.part-l-requires
part-l-requires c = search (line_notes, rules)

pub parse_record-read-requires : goal.parse_record-read-requires
parse_record-read-requires c = search (line_notes, rules)

pub meet_read-requires : goal.meet_read-requires
meet_read-requires c = search (line_notes, rules)

pub note_names-requires : goal.note_names-requires
note_names-requires c = search (line_notes, rules)

pub shape_of-notes : goal.shape_of-notes
shape_of-notes c = search (line_notes, rules)

pub returns-in-Ok : goal.returns-in-Ok
returns-in-Ok c = search (line_notes, rules)

pub returns-in-Err : goal.returns-in-Err
returns-in-Err c = search (line_notes, rules)
