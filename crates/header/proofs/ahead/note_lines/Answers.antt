use Rattle.std.proofs.Common.{rules}
use Rattle.header.proofs.Aheads.{notings}
use Rattle.header.proofs.ahead.note_lines.Goals as goal

pub loop-start-init : goal.loop-start-init
loop-start-init c = search (notings, rules)

pub next_line-found-requires : goal.next_line-found-requires
next_line-found-requires c = search (notings, rules)

pub note_line-requires : goal.note_line-requires
note_line-requires c = search (notings, rules)

pub loop-start-smaller : goal.loop-start-smaller
loop-start-smaller c = search (notings, rules)

pub loop-start-preserved : goal.loop-start-preserved
loop-start-preserved c = search (notings, rules)

pub shape_of-notes : goal.shape_of-notes
shape_of-notes c = search (notings, rules)

pub returns : goal.returns
returns c = search (notings, rules)
