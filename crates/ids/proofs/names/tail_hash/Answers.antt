use Rattle.std.proofs.Common.{rules}
use Rattle.ids.proofs.Markings.{hash_is}
use Rattle.ids.proofs.names.tail_hash.Goals as goal

pub returns : goal.returns
returns c = search (hash_is, rules)
