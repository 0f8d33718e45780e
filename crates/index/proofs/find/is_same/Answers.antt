use Rattle.index.proofs.Finding.{compares}
use Rattle.std.proofs.Common.{rules}
use Rattle.index.proofs.find.is_same.Goals as goal

pub returns-then-a-b : goal.returns-then-a-b
returns-then-a-b c = search (compares, rules)

pub loop-i-preserved : goal.loop-i-preserved
loop-i-preserved c = search (compares, rules)

pub returns : goal.returns
returns c = search (compares, rules)
