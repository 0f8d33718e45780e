use Rattle.forms.proofs.Copies.{copy_all, copies}
use Rattle.std.proofs.Common.{rules}
use Rattle.forms.proofs.others.put_others.Goals as goal

pub loop-equals-init : goal.loop-equals-init
loop-equals-init c = copy_all _ _ _ _ _ (search rules) (search rules)

pub split_field-requires : goal.split_field-requires
split_field-requires c = search (copies, rules)

pub enum_told-1 : goal.enum_told-1
enum_told-1 c = search (copies, rules)

pub part-name-requires : goal.part-name-requires
part-name-requires c = search (copies, rules)

pub part-value-requires : goal.part-value-requires
part-value-requires c = search (copies, rules)

pub put_other-next-requires : goal.put_other-next-requires
put_other-next-requires c = search (copies, rules)

pub consume_separator-requires : goal.consume_separator-requires
consume_separator-requires c = search (copies, rules)

pub enum_known-d : goal.enum_known-d
enum_known-d c = search (copies, rules)

pub shape_of-out-in_default-consume_separator : goal.shape_of-out-in_default-consume_separator
shape_of-out-in_default-consume_separator c = search (copies, rules)

pub returns-in_default-consume_separator : goal.returns-in_default-consume_separator
returns-in_default-consume_separator c = search (copies, rules)

pub loop-equals-smaller : goal.loop-equals-smaller
loop-equals-smaller c = search (copies, rules)

pub loop-equals-preserved : goal.loop-equals-preserved
loop-equals-preserved c = search (copies, rules)

pub returns : goal.returns
returns c = search (copies, rules)
