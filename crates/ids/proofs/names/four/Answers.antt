use Rattle.ids.proofs.Markings.{fours}
use Rattle.std.proofs.Common.{rules}
use Rattle.ids.proofs.names.four.Goals as goal

pub returns-clause-four : goal.returns-clause-four
returns-clause-four c = search (fours, rules)
