use Rattle.values.specs.Hash.{wide_step}
use Rattle.std.proofs.Common.{rules}
use Rattle.values.proofs.hash.wide_step.Goals as goal

pub returns : goal.returns
unfolding wide_step
returns c = search rules
