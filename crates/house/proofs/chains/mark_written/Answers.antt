use Rattle.std.proofs.Common.{rules}
use Rattle.house.proofs.Chainings.{tellings}
use Rattle.house.proofs.chains.mark_written.Goals as goal

pub get-link-requires : goal.get-link-requires
get-link-requires c = search (tellings, rules)

pub overflow_add-link : goal.overflow_add-link
overflow_add-link c = search (tellings, rules)

pub set-requires : goal.set-requires
set-requires c = search (tellings, rules)

pub shape_of-kept : goal.shape_of-kept
shape_of-kept c = search (tellings, rules)

pub returns : goal.returns
returns c = search (tellings, rules)
