use Rattle.index.proofs.Finding.{walks}
use Rattle.std.proofs.Common.{rules}
use Rattle.index.proofs.find.walk.Goals as goal

pub returns-then-word-eq0 : goal.returns-then-word-eq0
returns-then-word-eq0 c = search (walks, rules)

pub returns-then-is_named : goal.returns-then-is_named
returns-then-is_named c = search (walks, rules)

pub loop-k-preserved : goal.loop-k-preserved
loop-k-preserved c = search (walks, rules)

pub returns : goal.returns
returns c = search (walks, rules)
