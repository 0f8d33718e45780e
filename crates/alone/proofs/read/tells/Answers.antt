use Rattle.alone.proofs.Alones.{told_counts}
use Rattle.std.proofs.Common.{rules}
use Rattle.alone.proofs.read.tells.Goals as goal

pub counted-requires : goal.counted-requires
counted-requires c = search (told_counts, rules)

pub returns-then-counted-e : goal.returns-then-counted-e
returns-then-counted-e c = search (told_counts, rules)

pub returns-else-counted-e : goal.returns-else-counted-e
returns-else-counted-e c = search (told_counts, rules)
