use Rattle.values.proofs.Fields.{keys}
use Rattle.std.proofs.Common.{rules}
use Rattle.records.proofs.distinct.parse_name.Goals as goal

pub find_name_end-end-requires : goal.find_name_end-end-requires
find_name_end-end-requires c = search (keys, rules)

pub returns-then-end-start : goal.returns-then-end-start
returns-then-end-start c = search (keys, rules)

pub bounds-s-end : goal.bounds-s-end
bounds-s-end c = search (keys, rules)

pub overflow_add-result : goal.overflow_add-result
overflow_add-result c = search (keys, rules)

pub returns : goal.returns
returns c = search (keys, rules)
