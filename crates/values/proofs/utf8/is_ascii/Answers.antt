use Rattle.std.proofs.Common.{rules}
use Rattle.values.proofs.Ascii.{rises}
use Rattle.values.proofs.utf8.is_ascii.Goals as goal

pub loop-b-preserved : goal.loop-b-preserved
loop-b-preserved c = search (rises, rules)

pub returns : goal.returns
returns c = search (rises, rules)
