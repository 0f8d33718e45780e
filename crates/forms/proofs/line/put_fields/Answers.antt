use Rattle.forms.proofs.Lines.{fields_put}
use Rattle.std.proofs.Common.{rules}
use Rattle.forms.proofs.line.put_fields.Goals as goal

pub shape_of-out : goal.shape_of-out
shape_of-out c = search (fields_put, rules)

pub returns : goal.returns
returns c = search (fields_put, rules)
