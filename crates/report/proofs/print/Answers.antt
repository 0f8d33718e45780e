use Rattle.report.proofs.Reports.{reports}
use Rattle.std.proofs.Common.{rules}
use Rattle.report.proofs.print.Goals as goal

pub returns-then-input-gt65536 : goal.returns-then-input-gt65536
returns-then-input-gt65536 c = search (reports, rules)

pub returns : goal.returns
returns c = search (reports, rules)
