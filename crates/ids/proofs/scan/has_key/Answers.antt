use Rattle.ids.proofs.Markings.{scans}
use Rattle.std.proofs.Common.{rules}
use Rattle.ids.proofs.scan.has_key.Goals as goal

pub returns-then-is_met : goal.returns-then-is_met
returns-then-is_met c = search (scans, rules)

pub returns-else-is_met : goal.returns-else-is_met
returns-else-is_met c = search (scans, rules)
