use Rattle.sam.proofs.Sequences.{size_told}
use Rattle.std.proofs.Common.{rules}
use Rattle.sam.proofs.sequence.read_size.Goals as goal

pub returns : goal.returns
returns c = search (size_told, rules)
