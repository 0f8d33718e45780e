use Rattle.house.proofs.Forms.{form_compared}
use Rattle.std.proofs.Common.{rules}
use Rattle.house.proofs.form.compare_form.Goals as goal

pub returns : goal.returns
returns c = search (form_compared, rules)
