use Rattle.std.proofs.Common.{rules}
use Rattle.values.proofs.Integers.{plains}
use Rattle.values.proofs.integer.is_plain.Goals as goal

pub returns-then-s-eq0 : goal.returns-then-s-eq0
returns-then-s-eq0 c = search (plains, rules)

pub returns-in-43 : goal.returns-in-43
returns-in-43 c = search (plains, rules)

pub returns-in-48 : goal.returns-in-48
returns-in-48 c = search (plains, rules)

pub returns-in_default : goal.returns-in_default
returns-in_default c = search (plains, rules)
