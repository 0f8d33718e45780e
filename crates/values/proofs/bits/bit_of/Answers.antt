use Rattle.values.proofs.Markings.{bit_is}
use Rattle.std.proofs.Common.{rules}
use Rattle.values.proofs.bits.bit_of.Goals as goal

pub returns : goal.returns
returns c = search (bit_is, rules)
