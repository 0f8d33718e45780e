use Rattle.forms.proofs.Stands.{passes}
use Rattle.std.proofs.Common.{rules}
use Rattle.forms.proofs.formed.pass.Goals as goal

pub split_field-requires : goal.split_field-requires
split_field-requires c = search (passes, rules)

pub enum_told-1 : goal.enum_told-1
enum_told-1 c = search (passes, rules)

pub returns-in_default : goal.returns-in_default
returns-in_default c = search (passes, rules)

pub part-requires : goal.part-requires
part-requires c = search (passes, rules)

pub same-requires : goal.same-requires
same-requires c = search (passes, rules)

pub returns-then-not-same : goal.returns-then-not-same
returns-then-not-same c = search (passes, rules)

pub part-value-requires : goal.part-value-requires
part-value-requires c = search (passes, rules)

pub is_spelled-requires : goal.is_spelled-requires
is_spelled-requires c = search (passes, rules)

pub returns-then-not-is_spelled : goal.returns-then-not-is_spelled
returns-then-not-is_spelled c = search (passes, rules)

pub consume_separator-requires : goal.consume_separator-requires
consume_separator-requires c = search (passes, rules)

pub enum_known-d : goal.enum_known-d
enum_known-d c = search (passes, rules)

pub returns-in-Some-consume_separator : goal.returns-in-Some-consume_separator
returns-in-Some-consume_separator c = search (passes, rules)

pub returns-in-None : goal.returns-in-None
returns-in-None c = search (passes, rules)
