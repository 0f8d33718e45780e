use Rattle.dictionary.proofs.Places.{besides}
use Rattle.dictionary.proofs.Slotting.{twice}
use Rattle.std.proofs.Common.{rules}
use Rattle.dictionary.proofs.place.find_beside.Goals as goal

pub returns-then-marks-line : goal.returns-then-marks-line
returns-then-marks-line c = search (besides, twice, rules)

pub overflow_mul-line : goal.overflow_mul-line
overflow_mul-line c = search (besides, twice, rules)

pub returns-then-is_set : goal.returns-then-is_set
returns-then-is_set c = search (besides, twice, rules)

pub overflow_mul-line-2 : goal.overflow_mul-line-2
overflow_mul-line-2 c = search (besides, twice, rules)

pub overflow_add-line : goal.overflow_add-line
overflow_add-line c = search (besides, twice, rules)

pub returns-then-is_set-2 : goal.returns-then-is_set-2
returns-then-is_set-2 c = search (besides, twice, rules)

pub returns : goal.returns
returns c = search (besides, twice, rules)
