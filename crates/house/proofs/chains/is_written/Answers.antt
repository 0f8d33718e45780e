use Rattle.std.proofs.Common.{rules}
use Rattle.house.proofs.Chainings.{tellings}
use Rattle.house.proofs.chains.is_written.Goals as goal

pub get-requires : goal.get-requires
get-requires c = search (tellings, rules)

pub returns : goal.returns
returns c = search (tellings, rules)
