use Rattle.house.proofs.Others.{firsts}
use Rattle.std.proofs.Common.{rules}
use Rattle.house.proofs.keys.put_if_first.Goals as goal

pub get-e-requires : goal.get-e-requires
get-e-requires c = search (firsts, rules)

pub is_other-requires : goal.is_other-requires
is_other-requires c = search (firsts, rules)

pub returns-then-not-is_other : goal.returns-then-not-is_other
returns-then-not-is_other c = search (firsts, rules)

pub prefix_part-prefix-requires : goal.prefix_part-prefix-requires
prefix_part-prefix-requires c = search (firsts, rules)

pub slot_of-slot-requires : goal.slot_of-slot-requires
slot_of-slot-requires c = search (firsts, rules)

pub is_seen-requires : goal.is_seen-requires
is_seen-requires c = search (firsts, rules)

pub returns-then-is_seen : goal.returns-then-is_seen
returns-then-is_seen c = search (firsts, rules)

pub put_linked-requires : goal.put_linked-requires
put_linked-requires c = search (firsts, rules)

pub shape_of-out : goal.shape_of-out
shape_of-out c = search (firsts, rules)

pub returns : goal.returns
returns c = search (firsts, rules)
