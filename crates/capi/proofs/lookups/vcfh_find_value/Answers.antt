use Rattle.capi.proofs.Asking.{calls}
use Rattle.std.proofs.Common.{rules}
use Rattle.capi.proofs.lookups.vcfh_find_value.Goals as goal

pub value_of-requires : goal.value_of-requires
value_of-requires c = search (calls, rules)

pub returns : goal.returns
returns c = search (calls, rules)
