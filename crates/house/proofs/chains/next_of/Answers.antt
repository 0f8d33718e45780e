use Rattle.std.proofs.Common.{rules}
use Rattle.house.proofs.Chainings.{tellings}
use Rattle.house.proofs.chains.next_of.Goals as goal

pub get-next-requires : goal.get-next-requires
get-next-requires c = search (tellings, rules)

pub returns-then-k-next : goal.returns-then-k-next
returns-then-k-next c = search (tellings, rules)

pub returns : goal.returns
returns c = search (tellings, rules)
