use Rattle.records.proofs.Distincts.{all_doubted}
use Rattle.std.proofs.Common.{rules}
use Rattle.records.proofs.distinct.mark_all.Goals as goal

pub shape_of-marks : goal.shape_of-marks
shape_of-marks c = search (all_doubted, rules)

pub returns : goal.returns
returns c = search (all_doubted, rules)
