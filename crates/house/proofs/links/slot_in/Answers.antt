use Rattle.std.proofs.Common.{rules}
use Rattle.house.proofs.Linkings.{slots}
use Rattle.house.proofs.links.slot_in.Goals as goal

pub is_other-requires : goal.is_other-requires
is_other-requires c = search (slots, rules)

pub returns-then-not-is_other : goal.returns-then-not-is_other
returns-then-not-is_other c = search (slots, rules)

pub prefix_part-requires : goal.prefix_part-requires
prefix_part-requires c = search (slots, rules)

pub slot_of-requires : goal.slot_of-requires
slot_of-requires c = search (slots, rules)

pub returns : goal.returns
returns c = search (slots, rules)
