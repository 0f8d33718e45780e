use Rattle.ids.proofs.Markings.{scans}
use Rattle.std.proofs.Common.{rules}
use Rattle.ids.proofs.scan.has_id.Goals as goal

pub returns-then-meet_hash-clause-found : goal.returns-then-meet_hash-clause-found
returns-then-meet_hash-clause-found c = search (scans, rules)

pub returns-else-meet_hash-clause-found : goal.returns-else-meet_hash-clause-found
returns-else-meet_hash-clause-found c = search (scans, rules)
