use Rattle.alone.proofs.Alones.{entry}
use Rattle.std.proofs.Common.{rules}
use Rattle.alone.proofs.read.read_entry.Goals as goal

pub line_part-l-requires : goal.line_part-l-requires
line_part-l-requires c = search (entry, rules)

pub read_alone-requires : goal.read_alone-requires
read_alone-requires c = search (entry, rules)

pub key_length-requires : goal.key_length-requires
key_length-requires c = search (entry, rules)

pub tells-requires : goal.tells-requires
tells-requires c = search (entry, rules)

pub returns-then-tells : goal.returns-then-tells
returns-then-tells c = let e = rw c.in-Some-Map.field-0-is at c.in-Some-Map.is in search (entry, e, rules)

pub plain-requires : goal.plain-requires
plain-requires c = search (entry, rules)

pub returns-else-tells : goal.returns-else-tells
returns-else-tells c = let e = rw c.in-Some-Map.field-0-is at c.in-Some-Map.is in search (entry, e, rules)

pub returns-in-Some-Plain : goal.returns-in-Some-Plain
returns-in-Some-Plain c = let e = rw c.in-Some-Plain.field-0-is at c.in-Some-Plain.is in search (entry, e, rules)

pub returns-in-None : goal.returns-in-None
returns-in-None c = search (entry, rules)
