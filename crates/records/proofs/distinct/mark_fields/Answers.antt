use Rattle.std.proofs.Common.{rules}
use Rattle.records.proofs.Distincts.{seekings}
use Rattle.records.proofs.distinct.mark_fields.Goals as goal

pub loop-equals-init : goal.loop-equals-init
loop-equals-init c = search (seekings, rules)

pub split_field-requires : goal.split_field-requires
split_field-requires c = search (seekings, rules)

pub enum_told-1 : goal.enum_told-1
enum_told-1 c = search (seekings, rules)

pub shape_of-marks-in_default : goal.shape_of-marks-in_default
shape_of-marks-in_default c = search (seekings, rules)

pub returns-in_default : goal.returns-in_default
returns-in_default c = search (seekings, rules)

pub part-requires : goal.part-requires
part-requires c = search (seekings, rules)

pub is_named-requires : goal.is_named-requires
is_named-requires c = search (seekings, rules)

pub shape_of-marks-then-is_named : goal.shape_of-marks-then-is_named
shape_of-marks-then-is_named c = search (seekings, rules)

pub returns-then-is_named : goal.returns-then-is_named
returns-then-is_named c = search (seekings, rules)

pub consume_separator-requires : goal.consume_separator-requires
consume_separator-requires c = search (seekings, rules)

pub enum_known-d : goal.enum_known-d
enum_known-d c = search (seekings, rules)

pub shape_of-marks-in_default-consume_separator : goal.shape_of-marks-in_default-consume_separator
shape_of-marks-in_default-consume_separator c = search (seekings, rules)

pub returns-in_default-consume_separator : goal.returns-in_default-consume_separator
returns-in_default-consume_separator c = search (seekings, rules)

pub loop-equals-smaller : goal.loop-equals-smaller
loop-equals-smaller c = search (seekings, rules)

pub loop-equals-preserved : goal.loop-equals-preserved
loop-equals-preserved c = search (seekings, rules)
