use Rattle.capi.proofs.Answers.{readings}
use Rattle.std.proofs.Common.{rules}
use Rattle.capi.proofs.vcfh_read.Goals as goal

pub returns : goal.returns
returns c = search (readings, rules)
