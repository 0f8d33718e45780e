use Rattle.house.proofs.Weights.{sizings}
use Rattle.std.proofs.Common.{rules}
use Rattle.house.proofs.form.size_form.Goals as goal

pub returns-then-ended-gt0 : goal.returns-then-ended-gt0
returns-then-ended-gt0 c = search (sizings, rules)

pub returns : goal.returns
returns c = search (sizings, rules)
