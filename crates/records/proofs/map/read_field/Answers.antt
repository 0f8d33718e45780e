use Rattle.std.proofs.Common.{rules}
use Rattle.records.proofs.Steps.{steps}
use Rattle.records.proofs.map.read_field.Goals as goal

pub returns-in-More : goal.returns-in-More
returns-in-More c = search (steps, rules)

pub returns-in-Closed : goal.returns-in-Closed
returns-in-Closed c = search (steps, rules)

pub returns-in-Other : goal.returns-in-Other
returns-in-Other c = search (steps, rules)
