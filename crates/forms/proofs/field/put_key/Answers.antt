use Rattle.values.proofs.Outputs.{then}
use Rattle.std.proofs.Common.{rules}
use Rattle.forms.proofs.field.put_key.Goals as goal

pub shape_of-out : goal.shape_of-out
shape_of-out c = search (then, rules)

pub returns : goal.returns
returns c = search (then, rules)
