use Rattle.values.proofs.Values.{escapes}
use Rattle.std.proofs.Common.{rules}
use Rattle.values.proofs.cursor.Cursor.parse_escaped_string.Goals as goal

pub returns-in_default : goal.returns-in_default
returns-in_default c = search (escapes, rules)

pub returns-then-b-ne34 : goal.returns-then-b-ne34
returns-then-b-ne34 c = search (escapes, rules)

pub returns-in_default-find_closing : goal.returns-in_default-find_closing
returns-in_default-find_closing c = search (escapes, rules)

pub returns : goal.returns
returns c = search (escapes, rules)
