use Rattle.house.proofs.Writes.{version_line}
use Rattle.std.proofs.Common.{rules}
use Rattle.house.proofs.progress.put_version.Goals as goal

pub put_format-end-requires : goal.put_format-end-requires
put_format-end-requires c = search (version_line, rules)

pub end_line-next-requires : goal.end_line-next-requires
end_line-next-requires c = search (version_line, rules)

pub note_line-requires : goal.note_line-requires
note_line-requires c = search (version_line, rules)

pub shape_of-out : goal.shape_of-out
shape_of-out c = search (version_line, rules)

pub returns : goal.returns
returns c = search (version_line, rules)
