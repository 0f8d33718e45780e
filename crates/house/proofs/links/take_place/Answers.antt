use Rattle.house.proofs.Linkings.{places}
use Rattle.std.proofs.Common.{rules}
use Rattle.house.proofs.links.take_place.Goals as goal

pub is_other-requires : goal.is_other-requires
is_other-requires c = search (places, rules)

pub returns-then-not-is_other : goal.returns-then-not-is_other
returns-then-not-is_other c = search (places, rules)

pub prefix_part-requires : goal.prefix_part-requires
prefix_part-requires c = search (places, rules)

pub slot_of-slot-requires : goal.slot_of-slot-requires
slot_of-slot-requires c = search (places, rules)

pub returns-then-heads-slot : goal.returns-then-heads-slot
returns-then-heads-slot c = search (places, rules)

pub offset_bounds-heads-slot : goal.offset_bounds-heads-slot
offset_bounds-heads-slot c = search (places, rules)

pub bounds-heads-slot : goal.bounds-heads-slot
bounds-heads-slot c = search (places, rules)

pub short_of-requires : goal.short_of-requires
short_of-requires c = search (places, rules)

pub offset_bounds-heads-slot-2 : goal.offset_bounds-heads-slot-2
offset_bounds-heads-slot-2 c = search (places, rules)

pub bounds-heads-slot-2 : goal.bounds-heads-slot-2
bounds-heads-slot-2 c = search (places, rules)

pub shape_of-heads : goal.shape_of-heads
shape_of-heads c = search (places, rules)

pub returns : goal.returns
returns c = search (places, rules)
