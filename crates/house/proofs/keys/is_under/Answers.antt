use Rattle.house.proofs.Picks.{unders}
use Rattle.std.proofs.Common.{rules}
use Rattle.house.proofs.keys.is_under.Goals as goal

pub returns-then-is_record : goal.returns-then-is_record
returns-then-is_record c = search (unders, rules)

pub returns-else-is_record : goal.returns-else-is_record
returns-else-is_record c = search (unders, rules)
