use Rattle.ids.proofs.Markings.{insides}
use Rattle.std.proofs.Common.{rules}
use Rattle.ids.proofs.scan.lies_inside.Goals as goal

pub returns-then-h-e : goal.returns-then-h-e
returns-then-h-e c = search (insides, rules)

pub overflow_sub-rest : goal.overflow_sub-rest
overflow_sub-rest c = search (insides, rules)

pub returns-then-rest-e : goal.returns-then-rest-e
returns-then-rest-e c = search (insides, rules)

pub returns : goal.returns
returns c = search (insides, rules)
