use Rattle.capi.proofs.Answers.{odd}
use Rattle.std.proofs.Common.{rules}
use Rattle.capi.proofs.vcfh_odd.Goals as goal

pub returns : goal.returns
returns c = search (odd, rules)
