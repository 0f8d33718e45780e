use Rattle.records.proofs.Steps.{repeats}
use Rattle.std.proofs.Common.{rules}
use Rattle.records.proofs.map.is_repeated.Goals as goal

pub is_kept-requires : goal.is_kept-requires
is_kept-requires c = search (repeats, rules)

pub get-requires : goal.get-requires
get-requires c = search (repeats, rules)

pub enum_told-1 : goal.enum_told-1
enum_told-1 c = search (repeats, rules)

pub returns-then-plain : goal.returns-then-plain
returns-then-plain c = search (repeats, rules)

pub returns-then-at-distinct : goal.returns-then-at-distinct
returns-then-at-distinct c = search (repeats, rules)

pub has_key-requires : goal.has_key-requires
has_key-requires c = search (repeats, rules)

pub returns : goal.returns
returns c = search (repeats, rules)

pub returns-in-None : goal.returns-in-None
returns-in-None c = search (repeats, rules)

pub returns-in-Some : goal.returns-in-Some
returns-in-Some c = search (repeats, rules)
