use Rattle.records.proofs.Quickly.{follows}
use Rattle.std.proofs.Common.{rules}
use Rattle.records.proofs.quick.is_followed.Goals as goal

pub bounds-s-end : goal.bounds-s-end
bounds-s-end c = search (follows, rules)

pub overflow_add-end : goal.overflow_add-end
overflow_add-end c = search (follows, rules)

pub is_last-requires : goal.is_last-requires
is_last-requires c = search (follows, rules)

pub returns-else-s-end-eq44 : goal.returns-else-s-end-eq44
returns-else-s-end-eq44 c = search (follows, rules)

pub returns-then-s-end-eq44 : goal.returns-then-s-end-eq44
returns-then-s-end-eq44 c = search (follows, rules)
