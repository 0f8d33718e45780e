use Rattle.forms.proofs.Copies.{other_known, other_put}
use Rattle.std.proofs.Common.{rules}
use Rattle.forms.proofs.others.put_other.Goals as goal

pub tag-tag-requires : goal.tag-tag-requires
tag-tag-requires c = search (other_put, rules)

pub is_known-requires : goal.is_known-requires
is_known-requires c = search (other_put, rules)

pub returns-then-is_known : goal.returns-then-is_known
returns-then-is_known c = other_known _ _ _ c.tag-tag.result c.tag-tag.ensures c.is_known.ensures c.if-is_known.true (search rules) (search rules)

pub put_byte-next-requires : goal.put_byte-next-requires
put_byte-next-requires c = search (other_put, rules)

pub put_field-requires : goal.put_field-requires
put_field-requires c = search (other_put, rules)

pub shape_of-out : goal.shape_of-out
shape_of-out c = search (other_put, rules)

pub returns : goal.returns
returns c = search (other_put, rules)
