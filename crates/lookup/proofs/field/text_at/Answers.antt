use Rattle.lookup.proofs.Fields.{moved_texts}
use Rattle.std.proofs.Common.{rules}
use Rattle.lookup.proofs.field.text_at.Goals as goal

pub line_text-requires : goal.line_text-requires
line_text-requires c = search (moved_texts, rules)

pub enum_known-text : goal.enum_known-text
enum_known-text c = search (moved_texts, rules)

pub overflow_add-result : goal.overflow_add-result
overflow_add-result c = search (moved_texts, rules)

pub enum_told-1 : goal.enum_told-1
enum_told-1 c = search (moved_texts, rules)

pub overflow_add-result-in-Some : goal.overflow_add-result-in-Some
overflow_add-result-in-Some c = search (moved_texts, rules)

pub returns-in-Some : goal.returns-in-Some
returns-in-Some c = search (moved_texts, rules)
