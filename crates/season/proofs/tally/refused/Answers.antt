use Rattle.season.proofs.Tallies.{refusals}
use Rattle.std.proofs.Common.{rules}
use Rattle.season.proofs.tally.refused.Goals as goal

pub returns-then-n-le27 : goal.returns-then-n-le27
returns-then-n-le27 c = search (refusals, rules)

pub returns-else-n-le27 : goal.returns-else-n-le27
returns-else-n-le27 c = search (refusals, rules)
