use Rattle.records.proofs.Tables.{info_4_4}
use Rattle.std.proofs.Common.{rules}
use Rattle.records.proofs.definition.info_4_4.Goals as goal

pub returns-then-n-eq2 : goal.returns-then-n-eq2
returns-then-n-eq2 c = search (info_4_4, rules)

pub returns-then-n-eq3 : goal.returns-then-n-eq3
returns-then-n-eq3 c = search (info_4_4, rules)

pub returns-then-n-eq4 : goal.returns-then-n-eq4
returns-then-n-eq4 c = search (info_4_4, rules)

pub returns-then-n-eq5 : goal.returns-then-n-eq5
returns-then-n-eq5 c = search (info_4_4, rules)

pub returns-then-n-eq6 : goal.returns-then-n-eq6
returns-then-n-eq6 c = search (info_4_4, rules)

pub returns-then-n-eq7 : goal.returns-then-n-eq7
returns-then-n-eq7 c = search (info_4_4, rules)

pub returns-then-n-eq9 : goal.returns-then-n-eq9
returns-then-n-eq9 c = search (info_4_4, rules)

pub returns : goal.returns
returns c = search (info_4_4, rules)
