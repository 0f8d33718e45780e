use Rattle.turning.proofs.Turns.{turns}
use Rattle.std.proofs.Common.{rules}
use Rattle.turning.proofs.turn.turn.Goals as goal

pub returns-then-count-clause-answer : goal.returns-then-count-clause-answer
returns-then-count-clause-answer c = search (turns, rules)

pub returns-then-count-clause-table : goal.returns-then-count-clause-table
returns-then-count-clause-table c = search (turns, rules)

pub returns-else-count-clause-answer : goal.returns-else-count-clause-answer
returns-else-count-clause-answer c = search (turns, rules)

pub returns-else-count-clause-table : goal.returns-else-count-clause-table
returns-else-count-clause-table c = search (turns, rules)
