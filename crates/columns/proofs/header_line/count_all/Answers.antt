use Rattle.columns.proofs.Classes.{counted}
use Rattle.std.proofs.Common.{rules}
use Rattle.columns.proofs.header_line.count_all.Goals as goal

pub returns : goal.returns
returns c = search (counted, rules)
