use Rattle.entries.proofs.Plains.{plains}
use Rattle.std.proofs.Common.{rules}
use Rattle.entries.proofs.formed.are_plain.Goals as goal

pub loop-n-preserved : goal.loop-n-preserved
loop-n-preserved c = search (plains, rules)

pub returns-then-strays-eq0 : goal.returns-then-strays-eq0
returns-then-strays-eq0 c = search (plains, rules)
