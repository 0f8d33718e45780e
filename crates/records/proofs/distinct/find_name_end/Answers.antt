use Rattle.records.proofs.Distincts.{name_ends}
use Rattle.std.proofs.Common.{rules}
use Rattle.records.proofs.distinct.find_name_end.Goals as goal

pub loop-i-init : goal.loop-i-init
loop-i-init c = search (name_ends, rules)

pub bounds-s-i : goal.bounds-s-i
bounds-s-i c = search (name_ends, rules)

pub ends_name-requires : goal.ends_name-requires
ends_name-requires c = search (name_ends, rules)

pub returns-then-ends_name : goal.returns-then-ends_name
returns-then-ends_name c = search (name_ends, rules)

pub loop-i-preserved : goal.loop-i-preserved
loop-i-preserved c = search (name_ends, rules)

pub returns : goal.returns
returns c = search (name_ends, rules)
