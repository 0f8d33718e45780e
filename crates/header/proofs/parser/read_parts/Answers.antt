use Rattle.std.proofs.Common.{rules}
use Rattle.header.proofs.Parts.{partings}
use Rattle.header.proofs.parser.read_parts.Goals as goal

pub loop-reach-init : goal.loop-reach-init
loop-reach-init c = search (partings, rules)

pub overflow_sub-end : goal.overflow_sub-end
overflow_sub-end c = search (partings, rules)

pub overflow_add-ahead : goal.overflow_add-ahead
overflow_add-ahead c = search (partings, rules)

pub slice_bounds-last_end-end : goal.slice_bounds-last_end-end
slice_bounds-last_end-end c = search (partings, rules)

pub last_end-cut-requires : goal.last_end-cut-requires
last_end-cut-requires c = search (partings, rules)

pub loop-reach-smaller-then-cut-reach : goal.loop-reach-smaller-then-cut-reach
loop-reach-smaller-then-cut-reach c = search (partings, rules)

pub loop-reach-preserved-then-cut-reach : goal.loop-reach-preserved-then-cut-reach
loop-reach-preserved-then-cut-reach c = search (partings, rules)

pub slice_bounds-read_part-end : goal.slice_bounds-read_part-end
slice_bounds-read_part-end c = search (partings, rules)

pub read_part-requires : goal.read_part-requires
read_part-requires c = search (partings, rules)

pub loop-reach-smaller : goal.loop-reach-smaller
loop-reach-smaller c = search (partings, rules)

pub loop-reach-preserved : goal.loop-reach-preserved
loop-reach-preserved c = search (partings, rules)

pub read_part-requires-2 : goal.read_part-requires-2
read_part-requires-2 c = search (partings, rules)

pub shape_of-table : goal.shape_of-table
shape_of-table c = search (partings, rules)

pub returns : goal.returns
returns c = search (partings, rules)

pub returns-in-Err : goal.returns-in-Err
returns-in-Err c = search (partings, rules)
