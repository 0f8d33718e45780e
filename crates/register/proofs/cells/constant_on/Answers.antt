use Rattle.register.proofs.Walk.{constants_on}
use Rattle.std.proofs.Common.{rules}
use Rattle.register.proofs.cells.constant_on.Goals as goal

pub returns-then-line-eq0 : goal.returns-then-line-eq0
returns-then-line-eq0 c = search (constants_on, rules)

pub overflow_sub-line : goal.overflow_sub-line
overflow_sub-line c = search (constants_on, rules)

pub get-requires : goal.get-requires
get-requires c = search (constants_on, rules)

pub constant_of-requires : goal.constant_of-requires
constant_of-requires c = search (constants_on, rules)

pub returns : goal.returns
returns c = search (constants_on, rules)
