use Rattle.sam.proofs.Answers.{calls}
use Rattle.std.proofs.Common.{rules}
use Rattle.sam.proofs.contigs.write_doubted.Goals as goal

pub returns-then-out-size : goal.returns-then-out-size
returns-then-out-size c = search (calls, rules)

pub returns-else-out-size : goal.returns-else-out-size
returns-else-out-size c = search (calls, rules)

pub returns-in-Err : goal.returns-in-Err
returns-in-Err c = search (calls, rules)
