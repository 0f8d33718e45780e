use Rattle.std.proofs.Common.{rules}
use Rattle.entries.proofs.Tables.{counted}
use Rattle.entries.proofs.table.count.Goals as goal

pub returns-in-First : goal.returns-in-First
returns-in-First c = search (counted, rules)

pub returns-in-Second : goal.returns-in-Second
returns-in-Second c = search (counted, rules)
