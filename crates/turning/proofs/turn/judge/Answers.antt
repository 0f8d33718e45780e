use Rattle.std.proofs.Common.{rules}
use Rattle.turning.proofs.Turns.{judges}
use Rattle.turning.proofs.turn.judge.Goals as goal
use Rattle.turning.proofs.turn.judge.Goals.{then-fit, else-fit}

pub returns-in_default : goal.returns-in_default
returns-in_default c = search (judges, rules)

pub loop-n-preserved : goal.loop-n-preserved
loop-n-preserved c =
    elim c.if-fit.branch [
      | then-fit w ↦ rw w.fit-is (search (judges, rules))
      | else-fit w ↦ rw w.fit-is (search (judges, rules))
    ]

pub returns-then-fit-2 : goal.returns-then-fit-2
returns-then-fit-2 c = search (judges, rules)

pub returns-else-fit-2 : goal.returns-else-fit-2
returns-else-fit-2 c = search (judges, rules)
