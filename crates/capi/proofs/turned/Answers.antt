use Rattle.capi.proofs.Answers.{turnings}
use Rattle.std.proofs.Common.{rules}
use Rattle.capi.proofs.turned.Goals as goal

pub returns : goal.returns
returns c = search (turnings, rules)
