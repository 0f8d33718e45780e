use Rattle.sam.proofs.Walks.{walk_start, walks}
use Rattle.std.proofs.Common.{rules}
use Rattle.sam.proofs.contigs.walk.Goals as goal

pub loop-at-init : goal.loop-at-init
loop-at-init c = walk_start _ _ _ _ (search rules) (search rules)

pub loop-at-preserved : goal.loop-at-preserved
loop-at-preserved c = search (walks, rules)

pub returns : goal.returns
returns c = search (walks, rules)

pub returns-in-Err : goal.returns-in-Err
returns-in-Err c = search (walks, rules)

pub loop-at-preserved-in-Ok : goal.loop-at-preserved-in-Ok
loop-at-preserved-in-Ok c = search (walks, rules)
