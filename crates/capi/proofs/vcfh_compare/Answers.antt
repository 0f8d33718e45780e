use Rattle.capi.proofs.Answers.{compared}
use Rattle.std.proofs.Common.{rules}
use Rattle.capi.proofs.vcfh_compare.Goals as goal

pub returns : goal.returns
returns c = search (compared, rules)
