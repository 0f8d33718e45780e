use Rattle.std.proofs.Common.{rules}
use Rattle.values.proofs.Outputs.{more, ended}
use Rattle.values.proofs.sink.put_each.Goals as goal

pub loop-b-preserved : goal.loop-b-preserved
loop-b-preserved c = search (more, rules)

pub returns : goal.returns
returns c = search (ended, rules)
