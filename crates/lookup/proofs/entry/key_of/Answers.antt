use Rattle.lookup.proofs.Entries.{keys}
use Rattle.std.proofs.Common.{rules}
use Rattle.lookup.proofs.entry.key_of.Goals as goal

pub slice_bounds-result-end : goal.slice_bounds-result-end
slice_bounds-result-end c = search (keys, rules)

pub returns-then-e-gt-OTHER_TEXT : goal.returns-then-e-gt-OTHER_TEXT
returns-then-e-gt-OTHER_TEXT c = search (keys, rules)

pub line_part-l-requires : goal.line_part-l-requires
line_part-l-requires c = search (keys, rules)

pub starts_with-requires : goal.starts_with-requires
starts_with-requires c = search (keys, rules)

pub slice_bounds-result-end-then-not-starts_with : goal.slice_bounds-result-end-then-not-starts_with
slice_bounds-result-end-then-not-starts_with c = search (keys, rules)

pub returns-then-not-starts_with : goal.returns-then-not-starts_with
returns-then-not-starts_with c = search (keys, rules)

pub find-requires : goal.find-requires
find-requires c = search (keys, rules)

pub part-requires : goal.part-requires
part-requires c = search (keys, rules)

pub returns : goal.returns
returns c = search (keys, rules)
