use Rattle.house.proofs.Picks.{typed_keys_lem}
use Rattle.house.proofs.Looks.{typed_none}
use Rattle.std.proofs.Common.{rules}
use Rattle.house.proofs.keys.put_typed.Goals as goal

pub has_typed-requires : goal.has_typed-requires
has_typed-requires c = search (typed_keys_lem, typed_none, rules)

pub returns-then-not-has_typed : goal.returns-then-not-has_typed
returns-then-not-has_typed c = typed_none _ _ c.has_typed.ensures (rw c.if-not-has_typed.true) _ _ _ (search rules) (search rules) (search rules)

pub put_key-info-requires : goal.put_key-info-requires
put_key-info-requires c = search (typed_keys_lem, typed_none, rules)

pub put_key-filter-requires : goal.put_key-filter-requires
put_key-filter-requires c = search (typed_keys_lem, typed_none, rules)

pub put_later_typed-requires : goal.put_later_typed-requires
put_later_typed-requires c = search (typed_keys_lem, typed_none, rules)

pub shape_of-out : goal.shape_of-out
shape_of-out c = search (typed_keys_lem, typed_none, rules)

pub returns : goal.returns
returns c = search (typed_keys_lem, typed_none, rules)
