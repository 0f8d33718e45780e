use Rattle.header.proofs.Fields.{parts}
use Rattle.std.proofs.Common.{rules}
use Rattle.header.proofs.shown.field_at.Goals as goal

pub line_field-requires : goal.line_field-requires
line_field-requires c = search (parts, rules)

pub overflow_add-result : goal.overflow_add-result
overflow_add-result c = search (parts, rules)

pub overflow_add-result-in-Some : goal.overflow_add-result-in-Some
overflow_add-result-in-Some c = search (parts, rules)

pub returns-in-Some : goal.returns-in-Some
returns-in-Some c = search (parts, rules)
