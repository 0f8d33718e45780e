use Rattle.std.proofs.Common.{rules}
use Rattle.dictionary.proofs.Pairs.{endings}
use Rattle.dictionary.proofs.numbering.lines_end.Goals as goal

pub loop-k-init : goal.loop-k-init
loop-k-init c = search (endings, rules)

pub loop-k-preserved : goal.loop-k-preserved
loop-k-preserved c = search (endings, rules)
