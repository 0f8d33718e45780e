use Rattle.std.proofs.Common.{rules}
use Rattle.house.proofs.Linkings.{nexts}
use Rattle.house.proofs.links.next_of.Goals as goal

pub returns : goal.returns
returns c = search (nexts, rules)
