use Rattle.entries.proofs.Noted.{clearings}
use Rattle.std.proofs.Common.{rules}
use Rattle.entries.proofs.notes.clear.Goals as goal

pub loop-w-preserved : goal.loop-w-preserved
loop-w-preserved c = search (clearings, rules)

pub returns : goal.returns
returns c = search (clearings, rules)
