use Rattle.std.proofs.Common.{rules}
use Rattle.dictionary.proofs.Markings.{passeds}
use Rattle.dictionary.proofs.marking.mark_sought.Goals as goal

pub loop-at-init : goal.loop-at-init
loop-at-init c = search (passeds, rules)

pub loop-at-preserved : goal.loop-at-preserved
loop-at-preserved c = search (passeds, rules)
