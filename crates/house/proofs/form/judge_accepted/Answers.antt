use Rattle.house.proofs.Verdicts.{comparison_answered}
use Rattle.std.proofs.Common.{rules}
use Rattle.house.proofs.form.judge_accepted.Goals as goal

pub returns : goal.returns
returns c = search (comparison_answered, c.well_formed.1.1.1.1.0, rules)
