use Rattle.capi.proofs.Answers.{keys}
use Rattle.std.proofs.Common.{rules}
use Rattle.capi.proofs.key_of.Goals as goal

pub overflow_sub-result : goal.overflow_sub-result
overflow_sub-result c = search (keys, rules)
