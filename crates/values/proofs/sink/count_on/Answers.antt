use Rattle.values.proofs.Outputs.{counted}
use Rattle.values.proofs.sink.count_on.Goals as goal

pub returns : goal.returns
returns c = counted _ _ c.saturating_add.ensures
