use Rattle.house.proofs.Writes.{notes}
use Rattle.std.proofs.Common.{rules}
use Rattle.house.proofs.progress.note_line.Goals as goal

pub count_on-lines-requires : goal.count_on-lines-requires
count_on-lines-requires c = search (notes, rules)

pub returns-then-s-end : goal.returns-then-s-end
returns-then-s-end c = search (notes, rules)

pub returns : goal.returns
returns c = search (notes, rules)
