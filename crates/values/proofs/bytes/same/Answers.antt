use Rattle.std.proofs.Common.{rules}
use Rattle.values.proofs.Sames.{sames}
use Rattle.values.proofs.bytes.same.Goals as goal

pub returns-then-a-b : goal.returns-then-a-b
returns-then-a-b c = search (sames, rules)

pub loop-i-init : goal.loop-i-init
loop-i-init c = search (sames, rules)

pub returns-then-a-i : goal.returns-then-a-i
returns-then-a-i c = search (sames, rules)

pub loop-i-preserved : goal.loop-i-preserved
loop-i-preserved c = search (sames, rules)

pub returns : goal.returns
returns c = search (sames, rules)
