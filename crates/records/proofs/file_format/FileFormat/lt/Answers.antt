use Rattle.std.proofs.Common.{rules}
use Rattle.records.proofs.Formats.{compares}
use Rattle.records.proofs.file_format.FileFormat.lt.Goals as goal

pub returns-else-self-other-2 : goal.returns-else-self-other-2
returns-else-self-other-2 c = search (compares, rules)

pub returns-then-self-other : goal.returns-then-self-other
returns-then-self-other c = search (compares, rules)

pub returns-then-self-other-2 : goal.returns-then-self-other-2
returns-then-self-other-2 c = search (compares, rules)
