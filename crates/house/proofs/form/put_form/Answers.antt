use Rattle.house.proofs.Forms.{form_puts}
use Rattle.std.proofs.Common.{rules}
use Rattle.house.proofs.form.put_form.Goals as goal

pub returns : goal.returns
returns c = search (form_puts, rules)
