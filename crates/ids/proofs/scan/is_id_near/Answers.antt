use Rattle.ids.proofs.Markings.{nears}
use Rattle.std.proofs.Common.{rules}
use Rattle.ids.proofs.scan.is_id_near.Goals as goal

pub returns-else-not-lies_inside : goal.returns-else-not-lies_inside
returns-else-not-lies_inside c = search (nears, rules)
