use Rattle.entries.proofs.Plains.{blockings}
use Rattle.std.proofs.Common.{rules}
use Rattle.entries.proofs.formed.all_formed.Goals as goal

pub loop-n-init : goal.loop-n-init
loop-n-init c = search (blockings, rules)

pub block_end-end-requires : goal.block_end-end-requires
block_end-end-requires c = search (blockings, rules)

pub are_formed-requires : goal.are_formed-requires
are_formed-requires c = search (blockings, rules)

pub returns-then-not-are_formed : goal.returns-then-not-are_formed
returns-then-not-are_formed c = search (blockings, rules)

pub loop-n-smaller : goal.loop-n-smaller
loop-n-smaller c = search (blockings, rules)

pub loop-n-preserved : goal.loop-n-preserved
loop-n-preserved c = search (blockings, rules)

pub returns : goal.returns
returns c = search (blockings, rules)
