use Rattle.std.proofs.Common.{rules}
use Rattle.values.proofs.Markings.{meets}
use Rattle.values.proofs.marks.is_met.Goals as goal

pub returns-then-marks-lt-MANY : goal.returns-then-marks-lt-MANY
returns-then-marks-lt-MANY c = search (meets, rules)

pub returns-else-marks-lt-MANY : goal.returns-else-marks-lt-MANY
returns-else-marks-lt-MANY c = search (meets, rules)

pub returns-else-is_set : goal.returns-else-is_set
returns-else-is_set c = search (meets, rules)
