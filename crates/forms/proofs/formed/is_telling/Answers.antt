use Rattle.std.proofs.Common.{rules}
use Rattle.forms.proofs.Bares.{tells}
use Rattle.forms.proofs.formed.is_telling.Goals as goal

pub returns-then-b-eq34 : goal.returns-then-b-eq34
returns-then-b-eq34 c = search (tells, rules)

pub returns-then-not-comma : goal.returns-then-not-comma
returns-then-not-comma c = search (tells, rules)

pub returns-then-b-eq68 : goal.returns-then-b-eq68
returns-then-b-eq68 c = search (tells, rules)

pub returns : goal.returns
returns c = search (tells, rules)
