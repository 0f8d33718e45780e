use Rattle.std.proofs.Common.{rules}
use Rattle.values.proofs.Markings.{notes}
use Rattle.values.proofs.marks.is_noted.Goals as goal

pub returns-then-marks-eq0 : goal.returns-then-marks-eq0
returns-then-marks-eq0 c = search (notes, rules)

pub returns : goal.returns
returns c = search (notes, rules)

pub offset_bounds-marks-at : goal.offset_bounds-marks-at
offset_bounds-marks-at c = search (notes, rules)

pub bounds-marks-at : goal.bounds-marks-at
bounds-marks-at c = search (notes, rules)
