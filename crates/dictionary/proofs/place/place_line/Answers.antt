use Rattle.std.proofs.Common.{rules}
use Rattle.dictionary.proofs.Places.{lines}
use Rattle.dictionary.proofs.place.place_line.Goals as goal

pub returns-else-asked : goal.returns-else-asked
returns-else-asked c = search (lines, rules)
