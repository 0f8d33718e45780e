use Rattle.report.proofs.Reports.{reports}
use Rattle.std.proofs.Common.{rules}
use Rattle.report.proofs.put_version.Goals as goal

pub returns : goal.returns
returns c = search (reports, rules)
