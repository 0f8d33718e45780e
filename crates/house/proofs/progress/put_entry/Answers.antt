use Rattle.house.proofs.Writes.{entries}
use Rattle.std.proofs.Common.{rules}
use Rattle.house.proofs.progress.put_entry.Goals as goal

pub put_plain-requires : goal.put_plain-requires
put_plain-requires c = search (entries, rules)

pub shape_of-out-then-s : goal.shape_of-out-then-s
shape_of-out-then-s c = search (entries, rules)

pub returns-then-s : goal.returns-then-s
returns-then-s c = search (entries, rules)

pub is_formed-requires : goal.is_formed-requires
is_formed-requires c = search (entries, rules)

pub put_line-put-requires : goal.put_line-put-requires
put_line-put-requires c = search (entries, rules)

pub note_line-requires : goal.note_line-requires
note_line-requires c = search (entries, rules)

pub shape_of-out : goal.shape_of-out
shape_of-out c = search (entries, rules)

pub returns : goal.returns
returns c = search (entries, rules)
