use Rattle.std.proofs.Common.{rules}
use Rattle.house.proofs.Linkings.{passings}
use Rattle.house.proofs.links.pass_other.Goals as goal

pub returns-then-heads-slot : goal.returns-then-heads-slot
returns-then-heads-slot c = search (passings, rules)

pub slot_in-requires : goal.slot_in-requires
slot_in-requires c = search (passings, rules)

pub returns-then-slot_in-slot : goal.returns-then-slot_in-slot
returns-then-slot_in-slot c = search (passings, rules)

pub next_of-requires : goal.next_of-requires
next_of-requires c = search (passings, rules)

pub returns : goal.returns
returns c = search (passings, rules)
