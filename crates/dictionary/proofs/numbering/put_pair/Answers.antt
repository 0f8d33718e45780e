use Rattle.std.proofs.Common.{rules}
use Rattle.dictionary.proofs.Pairs.{putting}
use Rattle.dictionary.proofs.numbering.put_pair.Goals as goal

pub returns-then-pair-out : goal.returns-then-pair-out
returns-then-pair-out c = search (putting, rules)

pub returns-else-pair-out : goal.returns-else-pair-out
returns-else-pair-out c = search (putting, rules)
