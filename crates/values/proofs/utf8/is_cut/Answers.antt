use Rattle.std.proofs.Common.{rules}
use Rattle.values.proofs.Blocks.{cut_by}
use Rattle.values.proofs.utf8.is_cut.Goals as goal

pub returns : goal.returns
returns c = search (cut_by, rules)
