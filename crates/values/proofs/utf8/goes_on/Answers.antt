use Rattle.std.proofs.Common.{rules}
use Rattle.values.proofs.Blocks.{goes_by}
use Rattle.values.proofs.utf8.goes_on.Goals as goal

pub returns : goal.returns
returns c = search (goes_by, rules)
