use Rattle.std.proofs.Common.{rules}
use Rattle.values.proofs.Values.{plains}
use Rattle.values.proofs.string.skip_plain.Goals as goal

pub loop-i-preserved : goal.loop-i-preserved
loop-i-preserved c = search (plains, rules)
