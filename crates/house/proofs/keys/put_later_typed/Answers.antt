use Rattle.house.proofs.Picks.{later_keys_lem}
use Rattle.std.proofs.Common.{rules}
use Rattle.house.proofs.keys.put_later_typed.Goals as goal

pub put_key-format-requires : goal.put_key-format-requires
put_key-format-requires c = search (later_keys_lem, rules)

pub put_key-alt-requires : goal.put_key-alt-requires
put_key-alt-requires c = search (later_keys_lem, rules)

pub put_key-requires : goal.put_key-requires
put_key-requires c = search (later_keys_lem, rules)

pub shape_of-out : goal.shape_of-out
shape_of-out c = search (later_keys_lem, rules)

pub returns : goal.returns
returns c = search (later_keys_lem, rules)
