use Rattle.std.proofs.Common.{rules}
use Rattle.lines.proofs.Blocks.{skips}
use Rattle.lines.proofs.line.skip_blocks.Goals as goal

pub loop-i-preserved : goal.loop-i-preserved
loop-i-preserved c = search (skips, rules)
