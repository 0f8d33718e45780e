use Rattle.values.proofs.Markings.{bits_are}
use Rattle.std.proofs.Common.{rules}
use Rattle.values.proofs.marks.bits_of.Goals as goal

pub returns : goal.returns
returns c = search (bits_are, rules)
