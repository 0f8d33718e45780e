use Rattle.std.proofs.Common.{rules}
use Rattle.entries.proofs.Calls.{wells}
use Rattle.entries.proofs.shown.is_well_formed.Goals as goal

pub returns-then-not-lies_inside : goal.returns-then-not-lies_inside
returns-then-not-lies_inside c = search (wells, rules)

pub returns-then-not-lies_inside-2 : goal.returns-then-not-lies_inside-2
returns-then-not-lies_inside-2 c = search (wells, rules)

pub returns-then-has_id : goal.returns-then-has_id
returns-then-has_id c = search (wells, rules)

pub returns-then-not-has_known_kind : goal.returns-then-not-has_known_kind
returns-then-not-has_known_kind c = search (wells, rules)

pub returns-then-not-says_no_id : goal.returns-then-not-says_no_id
returns-then-not-says_no_id c = search (wells, rules)

pub returns : goal.returns
returns c = search (wells, rules)
