use Rattle.std.proofs.Common.{rules}
use Rattle.records.proofs.Needed.{all_typed}
use Rattle.records.proofs.typed.parse_typed.Goals as goal

pub returns-in_default : goal.returns-in_default
returns-in_default c = search (all_typed, rules)

pub returns-in_default-numbered : goal.returns-in_default-numbered
returns-in_default-numbered c = search (all_typed, rules)

pub returns-in_default-typed : goal.returns-in_default-typed
returns-in_default-typed c = search (all_typed, rules)

pub returns-in_default-described : goal.returns-in_default-described
returns-in_default-described c = search (all_typed, rules)

pub returns-in-Some-described : goal.returns-in-Some-described
returns-in-Some-described c = search (all_typed, rules)
