use Rattle.capi.proofs.Asking.{meanings}
use Rattle.std.proofs.Common.{rules}
use Rattle.capi.proofs.lookups.vcfh_means.Goals as goal

pub returns : goal.returns
returns c = search (meanings, rules)
