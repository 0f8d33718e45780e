use Rattle.header.proofs.Fields.{line_fields}
use Rattle.std.proofs.Common.{rules}
use Rattle.header.proofs.shown.line_field.Goals as goal

pub read_entry-requires : goal.read_entry-requires
read_entry-requires c = search (line_fields, rules)

pub line_part-l-requires : goal.line_part-l-requires
line_part-l-requires c = search (line_fields, rules)

pub overflow_add-map : goal.overflow_add-map
overflow_add-map c = search (line_fields, rules)

pub has_brackets-requires : goal.has_brackets-requires
has_brackets-requires c = search (line_fields, rules)

pub nth_field-requires : goal.nth_field-requires
nth_field-requires c = search (line_fields, rules)

pub returns-in-Some-Map-clause-shown : goal.returns-in-Some-Map-clause-shown
returns-in-Some-Map-clause-shown c = let e = rw c.in-Some-Map.field-0-is at c.in-Some-Map.is in search (line_fields, e, rules)

pub returns-in-Some-Plain-clause-shown : goal.returns-in-Some-Plain-clause-shown
returns-in-Some-Plain-clause-shown c = search (line_fields, rules)
