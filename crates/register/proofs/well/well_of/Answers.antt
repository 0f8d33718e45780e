use Rattle.std.proofs.Common.{rules}
use Rattle.register.proofs.Spelling.{named_wells}
use Rattle.register.proofs.well.well_of.Goals as goal

pub returns-in_default : goal.returns-in_default
returns-in_default c = search (named_wells, rules)

pub returns-in_default-2 : goal.returns-in_default-2
returns-in_default-2 c = search (named_wells, rules)

pub returns-in_default-3 : goal.returns-in_default-3
returns-in_default-3 c = search (named_wells, rules)

pub returns-then-tens-gt9 : goal.returns-then-tens-gt9
returns-then-tens-gt9 c = search (named_wells, rules)

pub returns-then-well-gt40 : goal.returns-then-well-gt40
returns-then-well-gt40 c = search (named_wells, rules)

pub returns : goal.returns
returns c = search (named_wells, rules)
