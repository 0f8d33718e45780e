use Rattle.capi.proofs.Answers.{parts}
use Rattle.std.proofs.Common.{rules}
use Rattle.capi.proofs.part_of.Goals as goal

pub overflow_sub-result : goal.overflow_sub-result
overflow_sub-result c = search (parts, rules)
