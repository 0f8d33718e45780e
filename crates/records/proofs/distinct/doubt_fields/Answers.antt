use Rattle.std.proofs.Common.{rules}
use Rattle.records.proofs.Distincts.{doubtings}
use Rattle.records.proofs.distinct.doubt_fields.Goals as goal

pub loop-equals-init : goal.loop-equals-init
loop-equals-init c = search (doubtings, rules)

pub split-requires : goal.split-requires
split-requires c = search (doubtings, rules)

pub enum_told-1 : goal.enum_told-1
enum_told-1 c = search (doubtings, rules)

pub shape_of-marks-in_default : goal.shape_of-marks-in_default
shape_of-marks-in_default c = search (doubtings, rules)

pub shape_of-doubts-in_default : goal.shape_of-doubts-in_default
shape_of-doubts-in_default c = search (doubtings, rules)

pub returns-in_default : goal.returns-in_default
returns-in_default c = search (doubtings, rules)

pub part-requires : goal.part-requires
part-requires c = search (doubtings, rules)

pub doubt_name-requires : goal.doubt_name-requires
doubt_name-requires c = search (doubtings, rules)

pub consume_separator-requires : goal.consume_separator-requires
consume_separator-requires c = search (doubtings, rules)

pub enum_known-d : goal.enum_known-d
enum_known-d c = search (doubtings, rules)

pub shape_of-marks-in_default-consume_separator : goal.shape_of-marks-in_default-consume_separator
shape_of-marks-in_default-consume_separator c = search (doubtings, rules)

pub shape_of-doubts-in_default-consume_separator : goal.shape_of-doubts-in_default-consume_separator
shape_of-doubts-in_default-consume_separator c = search (doubtings, rules)

pub returns-in_default-consume_separator : goal.returns-in_default-consume_separator
returns-in_default-consume_separator c = search (doubtings, rules)

pub loop-equals-smaller : goal.loop-equals-smaller
loop-equals-smaller c = search (doubtings, rules)

pub loop-equals-preserved : goal.loop-equals-preserved
loop-equals-preserved c = search (doubtings, rules)
