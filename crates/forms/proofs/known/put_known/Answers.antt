use Rattle.forms.proofs.Rows.{known_none, knowns}
use Rattle.std.proofs.Common.{rules}
use Rattle.forms.proofs.known.put_known.Goals as goal

pub find_field-requires : goal.find_field-requires
find_field-requires c = search (knowns, rules)

pub enum_known-text : goal.enum_known-text
enum_known-text c = search (knowns, rules)

pub enum_told-1 : goal.enum_told-1
enum_told-1 c = search (knowns, rules)

pub returns-in_default : goal.returns-in_default
returns-in_default c = known_none c.find_field.ensures _ c.in_default.is (search rules) (search rules)

pub put_byte-next-requires : goal.put_byte-next-requires
put_byte-next-requires c = search (knowns, rules)

pub part-value-requires : goal.part-value-requires
part-value-requires c = search (knowns, rules)

pub put_number-requires : goal.put_number-requires
put_number-requires c = search (knowns, rules)

pub shape_of-out-then-number : goal.shape_of-out-then-number
shape_of-out-then-number c = search (knowns, rules)

pub returns-then-number : goal.returns-then-number
returns-then-number c = search (knowns, rules)

pub put_field-requires : goal.put_field-requires
put_field-requires c = search (knowns, rules)

pub shape_of-out : goal.shape_of-out
shape_of-out c = search (knowns, rules)

pub returns : goal.returns
returns c = search (knowns, rules)
