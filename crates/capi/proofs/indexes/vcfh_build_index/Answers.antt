use Rattle.capi.proofs.Searches.{indexes}
use Rattle.std.proofs.Common.{rules}
use Rattle.capi.proofs.indexes.vcfh_build_index.Goals as goal

pub returns : goal.returns
returns c = search (indexes, rules)
