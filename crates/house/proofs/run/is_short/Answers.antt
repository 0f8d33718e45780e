use Rattle.house.proofs.Runs.{shorts}
use Rattle.std.proofs.Common.{rules}
use Rattle.house.proofs.run.is_short.Goals as goal

pub ends_with_cr-requires : goal.ends_with_cr-requires
ends_with_cr-requires c = search (shorts, rules)
