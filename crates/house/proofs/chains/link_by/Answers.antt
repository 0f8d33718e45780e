use Rattle.std.proofs.Common.{rules}
use Rattle.house.proofs.Chainings.{chainings}
use Rattle.house.proofs.chains.link_by.Goals as goal

pub count-k-requires : goal.count-k-requires
count-k-requires c = search (chainings, rules)

pub loop-k-init : goal.loop-k-init
loop-k-init c = search (chainings, rules)

pub link_entry-requires : goal.link_entry-requires
link_entry-requires c = search (chainings, rules)

pub loop-k-smaller : goal.loop-k-smaller
loop-k-smaller c = search (chainings, rules)

pub loop-k-preserved : goal.loop-k-preserved
loop-k-preserved c = search (chainings, rules)

pub shape_of-kept : goal.shape_of-kept
shape_of-kept c = search (chainings, rules)

pub shape_of-heads : goal.shape_of-heads
shape_of-heads c = search (chainings, rules)

pub returns : goal.returns
returns c = search (chainings, rules)
