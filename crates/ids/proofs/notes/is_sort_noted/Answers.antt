use Rattle.ids.proofs.Aheads.{sorts_noted}
use Rattle.std.proofs.Common.{rules}
use Rattle.ids.proofs.notes.is_sort_noted.Goals as goal

pub overflow_mul-kind : goal.overflow_mul-kind
overflow_mul-kind c = search (sorts_noted, rules)

pub is_noted-requires : goal.is_noted-requires
is_noted-requires c = search (sorts_noted, rules)

pub returns : goal.returns
returns c = search (sorts_noted, rules)
