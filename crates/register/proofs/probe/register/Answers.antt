use Rattle.register.proofs.Answers.{registers}
use Rattle.std.proofs.Common.{rules}
use Rattle.register.proofs.probe.register.Goals as goal

pub returns-in-Err : goal.returns-in-Err
returns-in-Err c = search (registers, rules)

pub returns-in-Ok : goal.returns-in-Ok
returns-in-Ok c = search (registers, rules)
