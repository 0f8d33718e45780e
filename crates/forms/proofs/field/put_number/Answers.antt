use Rattle.forms.proofs.Fields.{numbers}
use Rattle.std.proofs.Common.{rules}
use Rattle.forms.proofs.field.put_number.Goals as goal

pub parse_u64-requires : goal.parse_u64-requires
parse_u64-requires c = search (numbers, rules)

pub put_field-requires : goal.put_field-requires
put_field-requires c = search (numbers, rules)

pub shape_of-out-in_default : goal.shape_of-out-in_default
shape_of-out-in_default c = search (numbers, rules)

pub returns-in_default : goal.returns-in_default
returns-in_default c = search (numbers, rules)

pub put_key-next-requires : goal.put_key-next-requires
put_key-next-requires c = search (numbers, rules)

pub put_decimal-requires : goal.put_decimal-requires
put_decimal-requires c = search (numbers, rules)

pub shape_of-out : goal.shape_of-out
shape_of-out c = search (numbers, rules)

pub returns : goal.returns
returns c = search (numbers, rules)
