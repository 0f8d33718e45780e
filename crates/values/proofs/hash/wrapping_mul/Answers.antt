use Rattle.values.proofs.Hashes.{products}
use Rattle.std.proofs.Common.{rules}
use Rattle.values.proofs.hash.wrapping_mul.Goals as goal

pub returns : goal.returns
returns c = search (products, rules)
