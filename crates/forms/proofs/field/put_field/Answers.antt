use Rattle.forms.proofs.Fields.{field_written}
use Rattle.std.proofs.Common.{rules}
use Rattle.forms.proofs.field.put_field.Goals as goal

pub shape_of-out : goal.shape_of-out
shape_of-out c = search (field_written, rules)

pub returns : goal.returns
returns c = search (field_written, rules)
