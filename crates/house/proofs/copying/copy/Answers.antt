use Rattle.std.proofs.Common.{rules}
use Rattle.house.proofs.Copies.{copyings}
use Rattle.house.proofs.copying.copy.Goals as goal

pub loop-i-preserved : goal.loop-i-preserved
loop-i-preserved c = search (copyings, rules)

pub returns : goal.returns
returns c = search (copyings, rules)
