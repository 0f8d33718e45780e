use Rattle.values.specs.Written.{onward}
use Rattle.house.proofs.progress.count_on.Goals as goal

pub returns : goal.returns
unfolding onward
returns c = c.saturating_add.ensures
