use Rattle.std.proofs.Common.{◌∙◌}
use Rattle.forms.proofs.Lines.{ends_last}
use Rattle.forms.proofs.line.ends_with_cr.Goals as goal

pub returns : goal.returns
returns c = c.ends_with.ensures.value ∙ ends_last c.args.s.now
