use Rattle.capi.proofs.Asking.{calls}
use Rattle.std.proofs.Common.{rules}
use Rattle.capi.proofs.lookups.vcfh_describe.Goals as goal

pub returns : goal.returns
returns c = search (calls, rules)
