use Rattle.records.proofs.Required.{openings}
use Rattle.std.proofs.Common.{rules}
use Rattle.records.proofs.map.parse_map.Goals as goal

pub returns-in_default : goal.returns-in_default
returns-in_default c = search (openings, rules)

pub returns : goal.returns
returns c = search (openings, rules)
