use Rattle.records.proofs.Quickly.{maps_quickly}
use Rattle.std.proofs.Common.{rules}
use Rattle.records.proofs.quick.read_map.Goals as goal

pub part-requires : goal.part-requires
part-requires c = search (maps_quickly, rules)

pub starts_with-requires : goal.starts_with-requires
starts_with-requires c = search (maps_quickly, rules)

pub returns-then-not-starts_with : goal.returns-then-not-starts_with
returns-then-not-starts_with c = search (maps_quickly, rules)

pub overflow_add-start : goal.overflow_add-start
overflow_add-start c = search (maps_quickly, rules)

pub returns-then-s-start : goal.returns-then-s-start
returns-then-s-start c = search (maps_quickly, rules)

pub bounds-s-start : goal.bounds-s-start
bounds-s-start c = search (maps_quickly, rules)

pub find_stop-end-requires : goal.find_stop-end-requires
find_stop-end-requires c = search (maps_quickly, rules)

pub consume_suffix-requires : goal.consume_suffix-requires
consume_suffix-requires c = search (maps_quickly, rules)

pub returns-then-consume_suffix : goal.returns-then-consume_suffix
returns-then-consume_suffix c = search (maps_quickly, rules)

pub is_followed-requires : goal.is_followed-requires
is_followed-requires c = search (maps_quickly, rules)

pub returns-then-is_followed : goal.returns-then-is_followed
returns-then-is_followed c = search (maps_quickly, rules)

pub returns : goal.returns
returns c = search (maps_quickly, rules)
