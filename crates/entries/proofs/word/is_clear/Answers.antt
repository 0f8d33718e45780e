use Rattle.entries.proofs.Words.{clears}
use Rattle.std.proofs.Common.{rules}
use Rattle.entries.proofs.word.is_clear.Goals as goal

pub returns-then-w-eq0 : goal.returns-then-w-eq0
returns-then-w-eq0 c = search (clears, rules)

pub returns-else-w-eq0 : goal.returns-else-w-eq0
returns-else-w-eq0 c = search (clears, rules)

pub returns-then-x-eq0 : goal.returns-then-x-eq0
returns-then-x-eq0 c = search (clears, rules)

pub returns-else-x-eq0 : goal.returns-else-x-eq0
returns-else-x-eq0 c = search (clears, rules)
