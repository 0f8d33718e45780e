use Rattle.sam.proofs.Sequences.{value_found}
use Rattle.std.proofs.Common.{rules}
use Rattle.sam.proofs.sequence.name_of.Goals as goal

pub returns : goal.returns
returns c = search (value_found, rules)
