use Rattle.lookup.proofs.Fields.{parts}
use Rattle.std.proofs.Common.{rules}
use Rattle.lookup.proofs.field.field_parts.Goals as goal

pub field-requires : goal.field-requires
field-requires c = search (parts, rules)

pub slice_bounds-split-count : goal.slice_bounds-split-count
slice_bounds-split-count c = search (parts, rules)

pub slice_bounds-split-start : goal.slice_bounds-split-start
slice_bounds-split-start c = search (parts, rules)

pub slice_bounds-split-end : goal.slice_bounds-split-end
slice_bounds-split-end c = search (parts, rules)

pub split-at-requires : goal.split-at-requires
split-at-requires c = search (parts, rules)

pub overflow_add-result : goal.overflow_add-result
overflow_add-result c = search (parts, rules)
