use Rattle.alone.proofs.Alones.{plains}
use Rattle.std.proofs.Common.{rules}
use Rattle.alone.proofs.read.plain.Goals as goal

pub returns-then-is_asked : goal.returns-then-is_asked
returns-then-is_asked c = search (plains, rules)

pub returns : goal.returns
returns c = search (plains, rules)
