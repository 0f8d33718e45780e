use Rattle.records.proofs.Fields.{seeks}
use Rattle.std.proofs.Common.{rules}
use Rattle.records.proofs.field.find_field.Goals as goal

pub loop-equals-init : goal.loop-equals-init
loop-equals-init c = search (seeks, rules)

pub split_field-requires : goal.split_field-requires
split_field-requires c = search (seeks, rules)

pub enum_told-1 : goal.enum_told-1
enum_told-1 c = search (seeks, rules)

pub returns-in_default : goal.returns-in_default
returns-in_default c = search (seeks, rules)

pub part-requires : goal.part-requires
part-requires c = search (seeks, rules)

pub same-requires : goal.same-requires
same-requires c = search (seeks, rules)

pub returns-then-same : goal.returns-then-same
returns-then-same c = search (seeks, rules)

pub consume_separator-requires : goal.consume_separator-requires
consume_separator-requires c = search (seeks, rules)

pub enum_known-d : goal.enum_known-d
enum_known-d c = search (seeks, rules)

pub returns-in_default-consume_separator : goal.returns-in_default-consume_separator
returns-in_default-consume_separator c = search (seeks, rules)

pub loop-equals-smaller : goal.loop-equals-smaller
loop-equals-smaller c = search (seeks, rules)

pub loop-equals-preserved : goal.loop-equals-preserved
loop-equals-preserved c = search (seeks, rules)
