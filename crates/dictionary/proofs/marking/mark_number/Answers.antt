use Rattle.std.proofs.Common.{rules}
use Rattle.dictionary.proofs.Markings.{lines}
use Rattle.dictionary.proofs.Slotting.{slotting, twice}
use Rattle.dictionary.proofs.marking.mark_number.Goals as goal

pub overflow_mul-at : goal.overflow_mul-at
overflow_mul-at c = search (lines, slotting, twice, rules)

pub overflow_add-at : goal.overflow_add-at
overflow_add-at c = search (lines, slotting, twice, rules)

pub returns-then-clashes_implied-clause-marks : goal.returns-then-clashes_implied-clause-marks
returns-then-clashes_implied-clause-marks c = search (lines, slotting, twice, rules)

pub returns-else-is_in-clause-marks : goal.returns-else-is_in-clause-marks
returns-else-is_in-clause-marks c = search (lines, slotting, twice, rules)

pub returns-else-is_in-clause-slots : goal.returns-else-is_in-clause-slots
returns-else-is_in-clause-slots c = search (lines, slotting, twice, rules)

pub returns-then-is_in-2-clause-marks : goal.returns-then-is_in-2-clause-marks
returns-then-is_in-2-clause-marks c = search (lines, slotting, twice, rules)

pub returns-then-is_in-2-clause-slots : goal.returns-then-is_in-2-clause-slots
returns-then-is_in-2-clause-slots c = search (lines, slotting, twice, rules)

pub returns-else-is_in-2-clause-marks : goal.returns-else-is_in-2-clause-marks
returns-else-is_in-2-clause-marks c = search (lines, slotting, twice, rules)

pub returns-else-is_in-2-clause-slots : goal.returns-else-is_in-2-clause-slots
returns-else-is_in-2-clause-slots c = search (lines, slotting, twice, rules)
