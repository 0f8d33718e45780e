use Rattle.index.proofs.Places.{firsts}
use Rattle.std.proofs.Common.{rules}
use Rattle.index.proofs.place.first_place.Goals as goal

pub hash_of-requires : goal.hash_of-requires
hash_of-requires c = search (firsts, rules)

pub overflow_cast-result : goal.overflow_cast-result
overflow_cast-result c = search (firsts, rules)

pub nonzero_rem-result : goal.nonzero_rem-result
nonzero_rem-result c = search (firsts, rules)

pub returns : goal.returns
returns c = search (firsts, rules)
