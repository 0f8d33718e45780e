use Rattle.std.proofs.Common.{rules}
use Rattle.dictionary.proofs.Markings.{alls}
use Rattle.dictionary.proofs.marking.mark.Goals as goal

pub returns-then-asked : goal.returns-then-asked
returns-then-asked c = search (alls, rules)

pub returns-else-asked : goal.returns-else-asked
returns-else-asked c = search (alls, rules)
