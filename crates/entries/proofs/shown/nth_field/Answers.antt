use Rattle.entries.proofs.Fields.{steps}
use Rattle.std.proofs.Common.{rules}
use Rattle.entries.proofs.shown.nth_field.Goals as goal

pub split_field-requires : goal.split_field-requires
split_field-requires c = search (steps, rules)

pub enum_told-1 : goal.enum_told-1
enum_told-1 c = search (steps, rules)

pub returns-in_default : goal.returns-in_default
returns-in_default c = search (steps, rules)

pub consume_separator-requires : goal.consume_separator-requires
consume_separator-requires c = search (steps, rules)

pub enum_known-d : goal.enum_known-d
enum_known-d c = search (steps, rules)

pub returns-in_default-consume_separator : goal.returns-in_default-consume_separator
returns-in_default-consume_separator c = search (steps, rules)

pub loop-i-init : goal.loop-i-init
loop-i-init c = search (steps, rules)

pub loop-i-preserved : goal.loop-i-preserved
loop-i-preserved c = search (steps, rules)

pub returns-in_default-split_field-clause-shown : goal.returns-in_default-split_field-clause-shown
returns-in_default-split_field-clause-shown c = search (steps, rules)

pub returns-clause-shown : goal.returns-clause-shown
returns-clause-shown c = search (steps, rules)

pub returns-clause-inside : goal.returns-clause-inside
returns-clause-inside c = search (steps, rules)
