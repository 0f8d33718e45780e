use Rattle.forms.proofs.Fields.{ids}
use Rattle.std.proofs.Common.{rules}
use Rattle.forms.proofs.field.put_id.Goals as goal

pub part-value-requires : goal.part-value-requires
part-value-requires c = search (ids, rules)

pub put_field-requires : goal.put_field-requires
put_field-requires c = search (ids, rules)

pub shape_of-out-then-tag-eq0 : goal.shape_of-out-then-tag-eq0
shape_of-out-then-tag-eq0 c = search (ids, rules)

pub returns-then-tag-eq0 : goal.returns-then-tag-eq0
returns-then-tag-eq0 c = search (ids, rules)

pub put_field-requires-then-tag-eq1 : goal.put_field-requires-then-tag-eq1
put_field-requires-then-tag-eq1 c = search (ids, rules)

pub shape_of-out-then-tag-eq1 : goal.shape_of-out-then-tag-eq1
shape_of-out-then-tag-eq1 c = search (ids, rules)

pub returns-then-tag-eq1 : goal.returns-then-tag-eq1
returns-then-tag-eq1 c = search (ids, rules)

pub put_field-requires-2 : goal.put_field-requires-2
put_field-requires-2 c = search (ids, rules)

pub shape_of-out : goal.shape_of-out
shape_of-out c = search (ids, rules)

pub returns : goal.returns
returns c = search (ids, rules)
