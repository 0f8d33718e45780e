use Rattle.register.proofs.Walk.{start_tolds}
use Rattle.std.proofs.Common.{rules}
use Rattle.register.proofs.cells.start_of.Goals as goal

pub returns-then-line-eq0 : goal.returns-then-line-eq0
returns-then-line-eq0 c = search (start_tolds, rules)

pub overflow_sub-line : goal.overflow_sub-line
overflow_sub-line c = search (start_tolds, rules)

pub get-requires : goal.get-requires
get-requires c = search (start_tolds, rules)

pub returns : goal.returns
returns c = search (start_tolds, rules)
