use Rattle.alone.proofs.Alones.{lines}
use Rattle.std.proofs.Common.{rules}
use Rattle.alone.proofs.read.read_alone.Goals as goal

pub utf8-requires : goal.utf8-requires
utf8-requires c = search (lines, rules)

pub returns-then-not-utf8 : goal.returns-then-not-utf8
returns-then-not-utf8 c = search (lines, rules)

pub parse_record-requires : goal.parse_record-requires
parse_record-requires c = search (lines, rules)

pub plain-requires : goal.plain-requires
plain-requires c = search (lines, rules)

pub kind-requires : goal.kind-requires
kind-requires c = search (lines, rules)

pub returns-then-kind : goal.returns-then-kind
returns-then-kind c = search (lines, rules)

pub key_length-requires : goal.key_length-requires
key_length-requires c = search (lines, rules)

pub returns-else-kind : goal.returns-else-kind
returns-else-kind c = let e = rw c.in-Ok-Map.field-0-is at c.in-Ok-Map.is in search (lines, e, rules)

pub returns-in-Ok-FileFormat : goal.returns-in-Ok-FileFormat
returns-in-Ok-FileFormat c = search (lines, rules)

pub returns-in-Ok-Text : goal.returns-in-Ok-Text
returns-in-Ok-Text c = search (lines, rules)

pub returns-in-Err : goal.returns-in-Err
returns-in-Err c = search (lines, rules)
