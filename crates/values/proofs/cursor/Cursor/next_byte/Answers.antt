use Rattle.values.proofs.Cursors.{bytes}
use Rattle.std.proofs.Common.{rules}
use Rattle.values.proofs.cursor.Cursor.next_byte.Goals as goal

pub returns-then-at-s : goal.returns-then-at-s
returns-then-at-s c = search (bytes, rules)

pub returns-else-at-s : goal.returns-else-at-s
returns-else-at-s c = search (bytes, rules)
