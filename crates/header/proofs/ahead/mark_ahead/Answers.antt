use Rattle.header.proofs.Aheads.{aheads}
use Rattle.std.proofs.Common.{rules}
use Rattle.header.proofs.ahead.mark_ahead.Goals as goal

pub count-requires : goal.count-requires
count-requires c = search (aheads, rules)

pub overflow_sub-h : goal.overflow_sub-h
overflow_sub-h c = search (aheads, rules)

pub overflow_add-h : goal.overflow_add-h
overflow_add-h c = search (aheads, rules)

pub slice_bounds-mark_noted-end : goal.slice_bounds-mark_noted-end
slice_bounds-mark_noted-end c = search (aheads, rules)

pub mark_noted-requires : goal.mark_noted-requires
mark_noted-requires c = search (aheads, rules)

pub shape_of-marks-then-count-h : goal.shape_of-marks-then-count-h
shape_of-marks-then-count-h c = search (aheads, rules)

pub returns-then-count-h : goal.returns-then-count-h
returns-then-count-h c = search (aheads, rules)

pub slice_bounds-mark_noted-end-in-Empty : goal.slice_bounds-mark_noted-end-in-Empty
slice_bounds-mark_noted-end-in-Empty c = search (aheads, rules)

pub mark_noted-requires-in-Empty : goal.mark_noted-requires-in-Empty
mark_noted-requires-in-Empty c = search (aheads, rules)

pub enum_known-phase : goal.enum_known-phase
enum_known-phase c = search (aheads, rules)

pub mark_named-requires : goal.mark_named-requires
mark_named-requires c = search (aheads, rules)

pub shape_of-marks-in-Empty : goal.shape_of-marks-in-Empty
shape_of-marks-in-Empty c = search (aheads, rules)

pub returns-in-Empty : goal.returns-in-Empty
returns-in-Empty c = search (aheads, rules)

pub shape_of-marks-in-Ready : goal.shape_of-marks-in-Ready
shape_of-marks-in-Ready c = search (aheads, rules)

pub returns-in-Ready : goal.returns-in-Ready
returns-in-Ready c = search (aheads, rules)
