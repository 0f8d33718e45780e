use Rattle.ids.proofs.Markings.{namings}
use Rattle.std.proofs.Common.{rules}
use Rattle.ids.proofs.scan.mark_names.Goals as goal

pub mark_id-requires : goal.mark_id-requires
mark_id-requires c = search (namings, rules)

pub shape_of-marks-then-e-lt-OTHER_MAP : goal.shape_of-marks-then-e-lt-OTHER_MAP
shape_of-marks-then-e-lt-OTHER_MAP c = search (namings, rules)

pub returns-then-e-lt-OTHER_MAP : goal.returns-then-e-lt-OTHER_MAP
returns-then-e-lt-OTHER_MAP c = search (namings, rules)

pub mark_key-requires : goal.mark_key-requires
mark_key-requires c = search (namings, rules)

pub mark_id-requires-then-e-eq-OTHER_MAP : goal.mark_id-requires-then-e-eq-OTHER_MAP
mark_id-requires-then-e-eq-OTHER_MAP c = search (namings, rules)

pub shape_of-marks-then-e-eq-OTHER_MAP : goal.shape_of-marks-then-e-eq-OTHER_MAP
shape_of-marks-then-e-eq-OTHER_MAP c = search (namings, rules)

pub returns-then-e-eq-OTHER_MAP : goal.returns-then-e-eq-OTHER_MAP
returns-then-e-eq-OTHER_MAP c = search (namings, rules)

pub shape_of-marks-else-e-eq-OTHER_MAP : goal.shape_of-marks-else-e-eq-OTHER_MAP
shape_of-marks-else-e-eq-OTHER_MAP c = search (namings, rules)

pub returns-else-e-eq-OTHER_MAP : goal.returns-else-e-eq-OTHER_MAP
returns-else-e-eq-OTHER_MAP c = search (namings, rules)
