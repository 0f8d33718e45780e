use Rattle.records.proofs.Distincts.{doubted}
use Rattle.std.proofs.Common.{rules}
use Rattle.records.proofs.distinct.doubt_name.Goals as goal

pub name_hash-hash-requires : goal.name_hash-hash-requires
name_hash-hash-requires c = search (doubted, rules)

pub nonzero_rem-hash-2 : goal.nonzero_rem-hash-2
nonzero_rem-hash-2 c = search (doubted, rules)

pub returns-then-hash-classes : goal.returns-then-hash-classes
returns-then-hash-classes c = search (doubted, rules)

pub meet_hash-requires : goal.meet_hash-requires
meet_hash-requires c = search (doubted, rules)

pub shape_of-doubts : goal.shape_of-doubts
shape_of-doubts c = search (doubted, rules)

pub returns-else-meet_hash : goal.returns-else-meet_hash
returns-else-meet_hash c = search (doubted, rules)

pub returns-then-meet_hash : goal.returns-then-meet_hash
returns-then-meet_hash c = search (doubted, rules)
