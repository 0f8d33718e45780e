use Rattle.capi.proofs.Asking.{answers}
use Rattle.std.proofs.Common.{rules}
use Rattle.capi.proofs.lookups.value_of.Goals as goal

pub overflow_sub-result : goal.overflow_sub-result
overflow_sub-result c = search (answers, rules)
