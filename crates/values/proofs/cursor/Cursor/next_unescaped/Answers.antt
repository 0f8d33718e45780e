use Rattle.values.proofs.Cursors.{unescapes}
use Rattle.std.proofs.Common.{rules}
use Rattle.values.proofs.cursor.Cursor.next_unescaped.Goals as goal

pub next_byte-requires : goal.next_byte-requires
next_byte-requires c = search (unescapes, rules)

pub returns-in_default : goal.returns-in_default
returns-in_default c = search (unescapes, rules)

pub returns-then-not-quoted : goal.returns-then-not-quoted
returns-then-not-quoted c = search (unescapes, rules)

pub next_byte-requires-2 : goal.next_byte-requires-2
next_byte-requires-2 c = search (unescapes, rules)

pub returns-in_default-next_byte : goal.returns-in_default-next_byte
returns-in_default-next_byte c = search (unescapes, rules)

pub is_escapable-requires : goal.is_escapable-requires
is_escapable-requires c = search (unescapes, rules)

pub returns-then-is_escapable : goal.returns-then-is_escapable
returns-then-is_escapable c = search (unescapes, rules)

pub returns : goal.returns
returns c = search (unescapes, rules)
