use Rattle.std.proofs.Common.{rules}
use Rattle.entries.proofs.Plains.{faults}
use Rattle.entries.proofs.word.excess.Goals as goal

pub returns : goal.returns
returns c = search (faults, rules)
