use Rattle.std.proofs.Common.{rules}
use Rattle.values.proofs.Blocks.{blocks}
use Rattle.values.proofs.utf8.utf8.Goals as goal

pub returns-then-is_ascii : goal.returns-then-is_ascii
returns-then-is_ascii c = search (blocks, rules)

pub loop-i-init : goal.loop-i-init
loop-i-init c = search (blocks, rules)

pub returns-then-not-part_fits : goal.returns-then-not-part_fits
returns-then-not-part_fits c = search (blocks, rules)

pub loop-i-preserved : goal.loop-i-preserved
loop-i-preserved c = search (blocks, rules)

pub returns : goal.returns
returns c = search (blocks, rules)
