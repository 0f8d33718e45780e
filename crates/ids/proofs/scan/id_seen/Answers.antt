use Rattle.ids.proofs.Seen.{ids}
use Rattle.std.proofs.Common.{rules}
use Rattle.ids.proofs.scan.id_seen.Goals as goal

pub returns-then-same_meaning : goal.returns-then-same_meaning
returns-then-same_meaning c = search (ids, rules)

pub loop-k-preserved : goal.loop-k-preserved
loop-k-preserved c = search (ids, rules)

pub returns : goal.returns
returns c = search (ids, rules)
