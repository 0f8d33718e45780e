use Rattle.std.proofs.Common.{rules}
use Rattle.register.proofs.Spelling.{ranges}
use Rattle.register.proofs.well.in_range.Goals as goal

pub returns-in-50-to-200 : goal.returns-in-50-to-200
returns-in-50-to-200 c = search (ranges, rules)

pub returns-in_default : goal.returns-in_default
returns-in_default c = search (ranges, rules)

pub returns-in_default-2 : goal.returns-in_default-2
returns-in_default-2 c = search (ranges, rules)
