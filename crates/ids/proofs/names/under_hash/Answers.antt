use Rattle.ids.proofs.Markings.{hashes}
use Rattle.std.proofs.Common.{rules}
use Rattle.ids.proofs.names.under_hash.Goals as goal

pub wide_step-requires : goal.wide_step-requires
wide_step-requires c = search (hashes, rules)

pub returns : goal.returns
returns c = search (hashes, rules)
