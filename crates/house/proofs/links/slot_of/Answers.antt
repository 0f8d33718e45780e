use Rattle.std.proofs.Common.{rules}
use Rattle.house.proofs.Linkings.{slots}
use Rattle.house.proofs.links.slot_of.Goals as goal

pub wide_from-hash-requires : goal.wide_from-hash-requires
wide_from-hash-requires c = search (slots, rules)

pub wide_step-requires : goal.wide_step-requires
wide_step-requires c = search (slots, rules)

pub nonzero_rem-result : goal.nonzero_rem-result
nonzero_rem-result c = search (slots, rules)

pub returns : goal.returns
returns c = search (slots, rules)

pub returns-then-slots-eq0 : goal.returns-then-slots-eq0
returns-then-slots-eq0 c = search (slots, rules)
