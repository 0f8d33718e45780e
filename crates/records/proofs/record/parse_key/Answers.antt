use Rattle.records.proofs.Records.{keys}
use Rattle.std.proofs.Common.{rules}
use Rattle.records.proofs.record.parse_key.Goals as goal

pub find-end-requires : goal.find-end-requires
find-end-requires c = search (keys, rules)

pub returns-then-end-eq2 : goal.returns-then-end-eq2
returns-then-end-eq2 c = search (keys, rules)

pub part-name-requires : goal.part-name-requires
part-name-requires c = search (keys, rules)

pub same-requires : goal.same-requires
same-requires c = search (keys, rules)

pub returns-then-same : goal.returns-then-same
returns-then-same c = search (keys, rules)

pub map_key_of-requires : goal.map_key_of-requires
map_key_of-requires c = search (keys, rules)

pub returns : goal.returns
returns c = search (keys, rules)
