use Rattle.sam.proofs.Tags.{looks}
use Rattle.std.proofs.Common.{rules}
use Rattle.sam.proofs.tag.find_tag.Goals as goal

pub returns-then-line-start : goal.returns-then-line-start
returns-then-line-start c = search (looks, rules)

pub returns-then-same : goal.returns-then-same
returns-then-same c = search (looks, rules)

pub returns-then-line-end : goal.returns-then-line-end
returns-then-line-end c = search (looks, rules)

pub loop-tag-preserved : goal.loop-tag-preserved
loop-tag-preserved c = search (looks, rules)
