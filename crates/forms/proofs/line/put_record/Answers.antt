use Rattle.forms.proofs.Lines.{version_left, refused_left, records}
use Rattle.std.proofs.Common.{rules}
use Rattle.forms.proofs.line.put_record.Goals as goal

pub parse_record-requires : goal.parse_record-requires
parse_record-requires c = search (records, rules)

pub returns-then-s-m : goal.returns-then-s-m
returns-then-s-m c = let e = rw c.in-Ok-Map.field-0-is at c.in-Ok-Map.is in search (records, e, rules)

pub overflow_add-m : goal.overflow_add-m
overflow_add-m c = search (records, rules)

pub context-map-requires : goal.context-map-requires
context-map-requires c = search (records, rules)

pub put_map-requires : goal.put_map-requires
put_map-requires c = search (records, rules)

pub put_bytes-requires : goal.put_bytes-requires
put_bytes-requires c = search (records, rules)

pub shape_of-out-else-s-m : goal.shape_of-out-else-s-m
shape_of-out-else-s-m c = search (records, rules)

pub returns-else-s-m : goal.returns-else-s-m
returns-else-s-m c = let e = rw c.in-Ok-Map.field-0-is at c.in-Ok-Map.is in search (records, e, rules)

pub returns-in-Ok-FileFormat : goal.returns-in-Ok-FileFormat
returns-in-Ok-FileFormat c = version_left _ _ c.parse_record.ensures (rw c.in-Ok-FileFormat.field-0-is at c.in-Ok-FileFormat.is) (search rules) (search rules)

pub returns-in-Ok-Text : goal.returns-in-Ok-Text
returns-in-Ok-Text c = let e = rw c.in-Ok-Text.field-0-is at c.in-Ok-Text.is in search (records, e, rules)

pub returns-in-Err : goal.returns-in-Err
returns-in-Err c = refused_left _ _ c.parse_record.ensures c.in-Err.is (search rules) (search rules)
