use Rattle.std.proofs.Common.{rules}
use Rattle.values.proofs.Integers.{turns}
use Rattle.values.proofs.integer.unsigned.Goals as goal

pub returns-then-s-eq0 : goal.returns-then-s-eq0
returns-then-s-eq0 c = search (turns, rules)

pub returns-then-not-is_ascii_digit : goal.returns-then-not-is_ascii_digit
returns-then-not-is_ascii_digit c = search (turns, rules)

pub returns-then-bound-d : goal.returns-then-bound-d
returns-then-bound-d c = search (turns, rules)

pub returns-then-bound-d-2 : goal.returns-then-bound-d-2
returns-then-bound-d-2 c = search (turns, rules)

pub loop-b-preserved : goal.loop-b-preserved
loop-b-preserved c = search (turns, rules)

pub returns : goal.returns
returns c = search (turns, rules)
