use Rattle.std.proofs.Common.{rules}
use Rattle.house.proofs.Chainings.{placings}
use Rattle.house.proofs.chains.link_entry.Goals as goal

pub get-requires : goal.get-requires
get-requires c = search (placings, rules)

pub slot_in-slot-requires : goal.slot_in-slot-requires
slot_in-slot-requires c = search (placings, rules)

pub shape_of-kept-then-slot-from : goal.shape_of-kept-then-slot-from
shape_of-kept-then-slot-from c = search (placings, rules)

pub returns-then-slot-from : goal.returns-then-slot-from
returns-then-slot-from c = search (placings, rules)

pub shape_of-kept-then-heads-at : goal.shape_of-kept-then-heads-at
shape_of-kept-then-heads-at c = search (placings, rules)

pub returns-then-heads-at : goal.returns-then-heads-at
returns-then-heads-at c = search (placings, rules)

pub number_at-next-requires : goal.number_at-next-requires
number_at-next-requires c = search (placings, rules)

pub overflow_cast-heads : goal.overflow_cast-heads
overflow_cast-heads c = search (placings, rules)

pub offset_bounds-heads-at : goal.offset_bounds-heads-at
offset_bounds-heads-at c = search (placings, rules)

pub bounds-heads-at : goal.bounds-heads-at
bounds-heads-at c = search (placings, rules)

pub set-requires : goal.set-requires
set-requires c = search (placings, rules)

pub shape_of-kept : goal.shape_of-kept
shape_of-kept c = search (placings, rules)

pub shape_of-heads : goal.shape_of-heads
shape_of-heads c = search (placings, rules)

pub returns : goal.returns
returns c = search (placings, rules)
