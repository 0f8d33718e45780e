use Rattle.ids.proofs.Markings.{nexts}
use Rattle.std.proofs.Common.{rules}
use Rattle.ids.proofs.scan.next_near.Goals as goal

pub returns-then-quoted : goal.returns-then-quoted
returns-then-quoted c = search (nexts, rules)

pub loop-k-init : goal.loop-k-init
loop-k-init c = search (nexts, rules)

pub returns-then-is_near : goal.returns-then-is_near
returns-then-is_near c = search (nexts, rules)

pub loop-k-preserved : goal.loop-k-preserved
loop-k-preserved c = search (nexts, rules)

pub returns : goal.returns
returns c = search (nexts, rules)
