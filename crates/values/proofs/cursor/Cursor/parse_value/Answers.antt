use Rattle.values.proofs.Values.{reads}
use Rattle.std.proofs.Common.{rules}
use Rattle.values.proofs.cursor.Cursor.parse_value.Goals as goal

pub returns-in_default : goal.returns-in_default
returns-in_default c = search (reads, rules)

pub returns-then-b-eq34 : goal.returns-then-b-eq34
returns-then-b-eq34 c = search (reads, rules)

pub returns-then-brackets : goal.returns-then-brackets
returns-then-brackets c = search (reads, rules)

pub returns : goal.returns
returns c = search (reads, rules)
