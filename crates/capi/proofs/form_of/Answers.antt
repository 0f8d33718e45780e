use Rattle.std.proofs.Common.{rules}
use Rattle.capi.proofs.Answers.{naming}
use Rattle.capi.proofs.form_of.Goals as goal

pub returns-in-2 : goal.returns-in-2
returns-in-2 c = search (naming, rules)

pub returns-in_default : goal.returns-in_default
returns-in_default c = search (naming, rules)
