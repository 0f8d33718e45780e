use Rattle.values.specs.Hash.{hash_byte}
use Rattle.std.proofs.Common.{rules}
use Rattle.values.proofs.hash.hash_byte.Goals as goal

pub returns : goal.returns
unfolding hash_byte
returns c = search rules
