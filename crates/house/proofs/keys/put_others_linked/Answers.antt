use Rattle.house.proofs.Others.{others_linked}
use Rattle.std.proofs.Common.{rules}
use Rattle.house.proofs.keys.put_others_linked.Goals as goal

pub returns : goal.returns
returns c = search (others_linked, rules)
