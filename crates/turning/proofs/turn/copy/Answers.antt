use Rattle.std.proofs.Common.{rules}
use Rattle.entries.proofs.Tables.{next_fits}
use Rattle.turning.proofs.Turns.{copies, copy_next, met}
use Rattle.turning.proofs.turn.copy.Goals as goal

pub loop-n-init : goal.loop-n-init
loop-n-init c = search (copies, next_fits, rules)

pub returns-in_default : goal.returns-in_default
returns-in_default c = search (copies, next_fits, rules)

pub returns-then-not-put : goal.returns-then-not-put
returns-then-not-put c = search (copies, next_fits, rules)

pub loop-n-preserved : goal.loop-n-preserved
loop-n-preserved c = copy_next c.loop-n.invariant c.source.ensures c.count-n-end.ensures c.loop-n-test.true (search (met, rules)) c.target.ensures c.put.ensures.room c.put.ensures.table (rw c.if-not-put.false) (search rules)

pub returns : goal.returns
returns c = search (copies, next_fits, rules)
