use Rattle.dictionary.proofs.Lines.{implieds}
use Rattle.std.proofs.Common.{rules}
use Rattle.dictionary.proofs.line.is_implied.Goals as goal

pub returns-in-Strings : goal.returns-in-Strings
returns-in-Strings c = search (implieds, rules)

pub returns-in-Contigs : goal.returns-in-Contigs
returns-in-Contigs c = search (implieds, rules)
