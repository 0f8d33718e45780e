use Rattle.ids.proofs.Seen.{keys, keys_miss, keys_other}
use Rattle.std.proofs.Common.{rules}
use Rattle.ids.proofs.scan.key_seen.Goals as goal
use Rattle.ids.proofs.scan.key_seen.Goals.{else-e-kind-via-then-e-kind+else-starts_with, else-e-kind-via-else-e-kind}

pub returns-then-starts_with : goal.returns-then-starts_with
returns-then-starts_with c = search (keys, rules)

pub loop-k-preserved : goal.loop-k-preserved
loop-k-preserved c = elim c.else-e-kind.branch [
  | else-e-kind-via-then-e-kind+else-starts_with w ↦ keys_miss c.loop-k.invariant c.count-k-end.ensures c.loop-k-test.true c.get-e.ensures w.if-e-kind.true w.line_part.ensures w.starts_with.ensures w.if-starts_with.false
  | else-e-kind-via-else-e-kind w ↦ keys_other c.loop-k.invariant c.count-k-end.ensures c.loop-k-test.true c.get-e.ensures w.if-e-kind.false
]

pub returns : goal.returns
returns c = search (keys, rules)
