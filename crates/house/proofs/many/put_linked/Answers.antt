use Rattle.std.proofs.Common.{rules}
use Rattle.house.proofs.Manys.{linkeds}
use Rattle.house.proofs.many.put_linked.Goals as goal

pub returns : goal.returns
returns c = search (linkeds, rules)
