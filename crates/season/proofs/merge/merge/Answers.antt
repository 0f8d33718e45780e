use Rattle.std.proofs.Common.{rules}
use Rattle.season.proofs.Merging.{merges}
use Rattle.season.proofs.merge.merge.Goals as goal

pub loop-i-init : goal.loop-i-init
loop-i-init c = search (merges, rules)

pub returns-in_default : goal.returns-in_default
returns-in_default c = search (merges, rules)

pub loop-i-preserved : goal.loop-i-preserved
loop-i-preserved c = search (merges, rules)

pub returns : goal.returns
returns c = search (merges, rules)
