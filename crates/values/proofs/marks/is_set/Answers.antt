use Rattle.std.proofs.Common.{rules}
use Rattle.values.proofs.Markings.{looks}
use Rattle.values.proofs.marks.is_set.Goals as goal

pub returns-then-marks-eq0 : goal.returns-then-marks-eq0
returns-then-marks-eq0 c = search (looks, rules)

pub returns : goal.returns
returns c = search (looks, rules)

pub offset_bounds-marks-at : goal.offset_bounds-marks-at
offset_bounds-marks-at c = search (looks, rules)

pub bounds-marks-at : goal.bounds-marks-at
bounds-marks-at c = search (looks, rules)
