use Rattle.ids.proofs.Markings.{hashes}
use Rattle.std.proofs.Common.{rules}
use Rattle.ids.proofs.names.id_hash.Goals as goal

pub under_hash-requires : goal.under_hash-requires
under_hash-requires c = search (hashes, rules)

pub id_part-requires : goal.id_part-requires
id_part-requires c = search (hashes, rules)

pub wide_from-requires : goal.wide_from-requires
wide_from-requires c = search (hashes, rules)

pub returns : goal.returns
returns c = search (hashes, rules)
