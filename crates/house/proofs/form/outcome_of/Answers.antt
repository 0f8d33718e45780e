use Rattle.std.proofs.Common.{rules}
use Rattle.house.proofs.Forms.{outcomes}
use Rattle.house.proofs.form.outcome_of.Goals as goal

pub returns-then-limits-size : goal.returns-then-limits-size
returns-then-limits-size c = search (outcomes, rules)

pub returns-then-long-gt0 : goal.returns-then-long-gt0
returns-then-long-gt0 c = search (outcomes, rules)

pub returns-then-room-size : goal.returns-then-room-size
returns-then-room-size c = search (outcomes, rules)

pub returns : goal.returns
returns c = search (outcomes, rules)
