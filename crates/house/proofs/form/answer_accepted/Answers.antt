use Rattle.house.proofs.Answers.{form_answered_lem}
use Rattle.std.proofs.Common.{rules}
use Rattle.house.proofs.form.answer_accepted.Goals as goal

pub returns : goal.returns
returns c = search (form_answered_lem, rules)
