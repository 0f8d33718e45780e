use Rattle.season.proofs.Tallies.{accepted_tally}
use Rattle.std.proofs.Common.{rules}
use Rattle.season.proofs.tally.accepted.Goals as goal

pub returns : goal.returns
returns c = search (accepted_tally, rules)
