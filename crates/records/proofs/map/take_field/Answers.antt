use Rattle.std.proofs.Common.{rules}
use Rattle.records.proofs.Steps.{takes}
use Rattle.records.proofs.map.take_field.Goals as goal

pub returns-in_default : goal.returns-in_default
returns-in_default c = search (takes, rules)

pub returns-then-is_repeated : goal.returns-then-is_repeated
returns-then-is_repeated c = search (takes, rules)

pub returns-else-is_repeated : goal.returns-else-is_repeated
returns-else-is_repeated c = search (takes, rules)

pub returns-in-Err : goal.returns-in-Err
returns-in-Err c = search (takes, rules)
