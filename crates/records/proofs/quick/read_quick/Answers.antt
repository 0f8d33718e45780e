use Rattle.records.proofs.Quickly.{quickly}
use Rattle.std.proofs.Common.{rules}
use Rattle.records.proofs.quick.read_quick.Goals as goal

pub starts_with-requires : goal.starts_with-requires
starts_with-requires c = search (quickly, rules)

pub returns-then-not-starts_with : goal.returns-then-not-starts_with
returns-then-not-starts_with c = search (quickly, rules)

pub read_key-requires : goal.read_key-requires
read_key-requires c = search (quickly, rules)

pub returns-in_default : goal.returns-in_default
returns-in_default c = search (quickly, rules)

pub read_map-requires : goal.read_map-requires
read_map-requires c = search (quickly, rules)

pub returns-in_default-read_map : goal.returns-in_default-read_map
returns-in_default-read_map c = search (quickly, rules)

pub returns : goal.returns
returns c = search (quickly, rules)
