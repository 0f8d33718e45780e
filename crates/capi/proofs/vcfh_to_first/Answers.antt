use Rattle.capi.proofs.Answers.{turnings}
use Rattle.std.proofs.Common.{rules}
use Rattle.capi.proofs.vcfh_to_first.Goals as goal

pub returns : goal.returns
returns c = search (turnings, rules)
