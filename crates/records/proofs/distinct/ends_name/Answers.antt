use Rattle.records.proofs.Skims.{name_ends_lem}
use Rattle.std.proofs.Common.{rules}
use Rattle.records.proofs.distinct.ends_name.Goals as goal

pub returns : goal.returns
returns c = search (name_ends_lem, rules)
