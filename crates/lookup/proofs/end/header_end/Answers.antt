use Rattle.std.proofs.Common.{rules}
use Rattle.lookup.proofs.Endings.{ends}
use Rattle.lookup.proofs.end.header_end.Goals as goal

pub loop-at-init : goal.loop-at-init
loop-at-init c = search (ends, rules)

pub next_line-here-requires : goal.next_line-here-requires
next_line-here-requires c = search (ends, rules)

pub part-l-requires : goal.part-l-requires
part-l-requires c = search (ends, rules)

pub is_column_line-requires : goal.is_column_line-requires
is_column_line-requires c = search (ends, rules)

pub returns-then-is_column_line : goal.returns-then-is_column_line
returns-then-is_column_line c = search (ends, rules)

pub loop-at-smaller : goal.loop-at-smaller
loop-at-smaller c = search (ends, rules)

pub loop-at-preserved : goal.loop-at-preserved
loop-at-preserved c = search (ends, rules)

pub returns : goal.returns
returns c = search (ends, rules)
