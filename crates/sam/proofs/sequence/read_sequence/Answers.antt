use Rattle.sam.proofs.Sequences.{readings}
use Rattle.std.proofs.Common.{rules}
use Rattle.sam.proofs.sequence.read_sequence.Goals as goal

pub returns-then-line : goal.returns-then-line
returns-then-line c = search (readings, rules)

pub returns-then-not-utf8 : goal.returns-then-not-utf8
returns-then-not-utf8 c = search (readings, rules)

pub returns-then-not-are_tags : goal.returns-then-not-are_tags
returns-then-not-are_tags c = search (readings, rules)

pub returns-then-name_of-eq0 : goal.returns-then-name_of-eq0
returns-then-name_of-eq0 c = search (readings, rules)

pub returns-in_default : goal.returns-in_default
returns-in_default c = search (readings, rules)

pub returns-then-size-eq0 : goal.returns-then-size-eq0
returns-then-size-eq0 c = search (readings, rules)

pub returns : goal.returns
returns c = search (readings, rules)
