use Rattle.values.proofs.Sames.{starts_by}
use Rattle.values.proofs.bytes.starts_with.Goals as goal

pub returns : goal.returns
returns c = starts_by _ _ c.starts_with.ensures.value
