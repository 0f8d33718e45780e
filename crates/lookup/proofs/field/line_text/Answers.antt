use Rattle.lookup.proofs.Fields.{line_texts}
use Rattle.std.proofs.Common.{rules}
use Rattle.lookup.proofs.field.line_text.Goals as goal

pub read_entry-requires : goal.read_entry-requires
read_entry-requires c = search (line_texts, rules)

pub line_part-l-requires : goal.line_part-l-requires
line_part-l-requires c = search (line_texts, rules)

pub overflow_add-map : goal.overflow_add-map
overflow_add-map c = search (line_texts, rules)

pub has_brackets-requires : goal.has_brackets-requires
has_brackets-requires c = search (line_texts, rules)

pub find_field-requires : goal.find_field-requires
find_field-requires c = search (line_texts, rules)

pub returns-in-Some-Map-clause-found : goal.returns-in-Some-Map-clause-found
returns-in-Some-Map-clause-found c = search (line_texts, rules)

pub returns-in-Some-Map-clause-inside : goal.returns-in-Some-Map-clause-inside
returns-in-Some-Map-clause-inside c = search (line_texts, rules)

pub returns-in-Some-Plain-clause-found : goal.returns-in-Some-Plain-clause-found
returns-in-Some-Plain-clause-found c = search (line_texts, rules)
