use Rattle.std.proofs.Common.{rules}
use Rattle.dictionary.proofs.Places.{implieds}
use Rattle.dictionary.proofs.place.clashes_implied.Goals as goal

pub returns-then-is_implied : goal.returns-then-is_implied
returns-then-is_implied c = search (implieds, rules)

pub returns-else-is_implied : goal.returns-else-is_implied
returns-else-is_implied c = search (implieds, rules)

pub returns-in-Contigs : goal.returns-in-Contigs
returns-in-Contigs c = search (implieds, rules)
