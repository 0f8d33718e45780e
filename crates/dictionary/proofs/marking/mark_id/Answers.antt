use Rattle.dictionary.proofs.Markings.{lines}
use Rattle.dictionary.proofs.Slotting.{slotting, twice, stands_id}
use Rattle.std.proofs.Common.{rules}
use Rattle.dictionary.proofs.marking.mark_id.Goals as goal

pub find_earlier-earlier-requires-clause-stands : goal.find_earlier-earlier-requires-clause-stands
find_earlier-earlier-requires-clause-stands c = search stands_id

pub mark_met-requires : goal.mark_met-requires
mark_met-requires c = search (lines, slotting, twice, rules)

pub returns-then-is_in-clause-marks : goal.returns-then-is_in-clause-marks
returns-then-is_in-clause-marks c = search (lines, slotting, twice, rules)

pub returns-else-is_in-clause-marks : goal.returns-else-is_in-clause-marks
returns-else-is_in-clause-marks c = search (lines, slotting, twice, rules)

pub returns-else-is_in-clause-slots : goal.returns-else-is_in-clause-slots
returns-else-is_in-clause-slots c = search (lines, slotting, twice, rules)
