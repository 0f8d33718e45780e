use Rattle.dictionary.proofs.Pairs.{placings}
use Rattle.std.proofs.Common.{rules}
use Rattle.dictionary.proofs.numbering.number_line.Goals as goal

pub returns-clause-out : goal.returns-clause-out
returns-clause-out c = search (placings, rules)
