use Rattle.view.proofs.Walks.{one_step}
use Rattle.std.proofs.Common.{rules}
use Rattle.view.proofs.step_at.Goals as goal

pub overflow_add-result : goal.overflow_add-result
overflow_add-result c = search (one_step, rules)
