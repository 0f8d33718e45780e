use Rattle.turning.proofs.Turns.{raisings}
use Rattle.std.proofs.Common.{rules}
use Rattle.turning.proofs.turn.raise.Goals as goal

pub returns-then-e-gt-OTHER_TEXT : goal.returns-then-e-gt-OTHER_TEXT
returns-then-e-gt-OTHER_TEXT c = search (raisings, rules)

pub returns-in-Some-Map : goal.returns-in-Some-Map
returns-in-Some-Map c = let e = rw c.in-Some-Map.field-0-is at c.in-Some-Map.is in search (raisings, e, rules)

pub returns-in-Some-Plain : goal.returns-in-Some-Plain
returns-in-Some-Plain c = let e = rw c.in-Some-Plain.field-0-is at c.in-Some-Plain.is in search (raisings, e, rules)

pub returns-in-None : goal.returns-in-None
returns-in-None c = search (raisings, rules)
