use Rattle.std.proofs.Common.{rules}
use Rattle.house.proofs.Linkings.{linkings}
use Rattle.house.proofs.links.link_all.Goals as goal

pub count-k-requires : goal.count-k-requires
count-k-requires c = search (linkings, rules)

pub loop-k-init : goal.loop-k-init
loop-k-init c = search (linkings, rules)

pub get-requires : goal.get-requires
get-requires c = search (linkings, rules)

pub take_place-next-requires : goal.take_place-next-requires
take_place-next-requires c = search (linkings, rules)

pub lower-requires : goal.lower-requires
lower-requires c = search (linkings, rules)

pub loop-k-smaller : goal.loop-k-smaller
loop-k-smaller c = search (linkings, rules)

pub loop-k-preserved : goal.loop-k-preserved
loop-k-preserved c = search (linkings, rules)

pub shape_of-heads : goal.shape_of-heads
shape_of-heads c = search (linkings, rules)

pub shape_of-links : goal.shape_of-links
shape_of-links c = search (linkings, rules)

pub returns : goal.returns
returns c = search (linkings, rules)
