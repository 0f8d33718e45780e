use Rattle.std.proofs.Common.{rules}
use Rattle.values.proofs.Markings.{meets}
use Rattle.values.proofs.marks.meet_hash.Goals as goal

pub returns-then-marks-lt-MANY : goal.returns-then-marks-lt-MANY
returns-then-marks-lt-MANY c = search (meets, rules)

pub returns : goal.returns
returns c = search (meets, rules)
