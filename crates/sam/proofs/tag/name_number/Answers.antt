use Rattle.sam.proofs.Tags.{numbers}
use Rattle.std.proofs.Common.{rules}
use Rattle.sam.proofs.tag.name_number.Goals as goal

pub bounds-tag-0 : goal.bounds-tag-0
bounds-tag-0 c = search (numbers, rules)

pub overflow_sub-result : goal.overflow_sub-result
overflow_sub-result c = search (numbers, rules)

pub bounds-tag-1 : goal.bounds-tag-1
bounds-tag-1 c = search (numbers, rules)

pub overflow_sub-result-2 : goal.overflow_sub-result-2
overflow_sub-result-2 c = search (numbers, rules)

pub returns : goal.returns
returns c = search (numbers, rules)
