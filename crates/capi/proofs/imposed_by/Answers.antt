use Rattle.capi.proofs.Answers.{imposing}
use Rattle.std.proofs.Common.{rules}
use Rattle.capi.proofs.imposed_by.Goals as goal

pub returns-in-0 : goal.returns-in-0
returns-in-0 c = search (imposing, rules)

pub returns-in_default : goal.returns-in_default
returns-in_default c = search (imposing, rules)
