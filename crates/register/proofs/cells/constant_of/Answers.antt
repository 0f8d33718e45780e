use Rattle.register.proofs.Walk.{constants_of}
use Rattle.std.proofs.Common.{rules}
use Rattle.register.proofs.cells.constant_of.Goals as goal

pub returns-in_default : goal.returns-in_default
returns-in_default c = search (constants_of, rules)

pub returns : goal.returns
returns c = search (constants_of, rules)
