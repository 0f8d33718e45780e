use Rattle.values.proofs.Outputs.{only_written}
use Rattle.std.proofs.Common.{rules}
use Rattle.forms.proofs.line.put_field.Goals as goal

pub put_field-next-requires : goal.put_field-next-requires
put_field-next-requires c = search (only_written, rules)

pub shape_of-out : goal.shape_of-out
shape_of-out c = search (only_written, rules)

pub returns : goal.returns
returns c = search (only_written, rules)
