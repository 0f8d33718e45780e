use Rattle.house.proofs.Others.{prefixes}
use Rattle.std.proofs.Common.{rules}
use Rattle.house.proofs.keys.prefix_part.Goals as goal

pub line_part-line-requires : goal.line_part-line-requires
line_part-line-requires c = search (prefixes, rules)

pub find-end-requires : goal.find-end-requires
find-end-requires c = search (prefixes, rules)

pub returns-then-line-end : goal.returns-then-line-end
returns-then-line-end c = search (prefixes, rules)

pub overflow_add-end : goal.overflow_add-end
overflow_add-end c = search (prefixes, rules)

pub part-requires : goal.part-requires
part-requires c = search (prefixes, rules)

pub returns : goal.returns
returns c = search (prefixes, rules)
