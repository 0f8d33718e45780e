use Rattle.std.proofs.Common.{rules}
use Rattle.values.proofs.Blocks.{walks}
use Rattle.values.proofs.utf8.all_fit.Goals as goal

pub loop-b-preserved : goal.loop-b-preserved
loop-b-preserved c = search (walks, rules)

pub returns : goal.returns
returns c = search (walks, rules)
