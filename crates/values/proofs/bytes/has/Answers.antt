use Rattle.std.proofs.Common.{rules}
use Rattle.values.proofs.Seeks.{seeks}
use Rattle.values.proofs.bytes.has.Goals as goal

pub loop-b-preserved : goal.loop-b-preserved
loop-b-preserved c = search (seeks, rules)

pub returns : goal.returns
returns c = search (seeks, rules)
