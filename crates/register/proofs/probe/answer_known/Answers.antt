use Rattle.register.proofs.Answers.{knowns}
use Rattle.std.proofs.Common.{rules}
use Rattle.register.proofs.probe.answer_known.Goals as goal

pub returns-then-is_missing : goal.returns-then-is_missing
returns-then-is_missing c = search (knowns, rules)

pub returns-then-fault-gt0 : goal.returns-then-fault-gt0
returns-then-fault-gt0 c = search (knowns, rules)

pub returns : goal.returns
returns c = search (knowns, rules)
