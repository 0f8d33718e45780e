use Rattle.records.proofs.Tables.{format_4_3}
use Rattle.std.proofs.Common.{rules}
use Rattle.records.proofs.definition.format_4_3.Goals as goal

pub returns-then-n-eq2 : goal.returns-then-n-eq2
returns-then-n-eq2 c = search (format_4_3, rules)

pub returns-then-n-eq3 : goal.returns-then-n-eq3
returns-then-n-eq3 c = search (format_4_3, rules)

pub returns-then-n-eq4 : goal.returns-then-n-eq4
returns-then-n-eq4 c = search (format_4_3, rules)

pub returns : goal.returns
returns c = search (format_4_3, rules)
