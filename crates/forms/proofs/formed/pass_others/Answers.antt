use Rattle.std.proofs.Common.{rules}
use Rattle.forms.proofs.Stands.{passings}
use Rattle.forms.proofs.formed.pass_others.Goals as goal

pub loop-equals-init : goal.loop-equals-init
loop-equals-init c = search (passings, rules)

pub split_field-requires : goal.split_field-requires
split_field-requires c = search (passings, rules)

pub enum_told-1 : goal.enum_told-1
enum_told-1 c = search (passings, rules)

pub part-name-requires : goal.part-name-requires
part-name-requires c = search (passings, rules)

pub tag-tag-requires : goal.tag-tag-requires
tag-tag-requires c = search (passings, rules)

pub is_known-requires : goal.is_known-requires
is_known-requires c = search (passings, rules)

pub returns-then-is_known : goal.returns-then-is_known
returns-then-is_known c = search (passings, rules)

pub part-value-requires : goal.part-value-requires
part-value-requires c = search (passings, rules)

pub is_spelled-requires : goal.is_spelled-requires
is_spelled-requires c = search (passings, rules)

pub returns-then-not-is_spelled : goal.returns-then-not-is_spelled
returns-then-not-is_spelled c = search (passings, rules)

pub consume_separator-requires : goal.consume_separator-requires
consume_separator-requires c = search (passings, rules)

pub enum_known-d : goal.enum_known-d
enum_known-d c = search (passings, rules)

pub returns-in_default-consume_separator : goal.returns-in_default-consume_separator
returns-in_default-consume_separator c = search (passings, rules)

pub loop-equals-smaller : goal.loop-equals-smaller
loop-equals-smaller c = search (passings, rules)

pub loop-equals-preserved : goal.loop-equals-preserved
loop-equals-preserved c = search (passings, rules)
