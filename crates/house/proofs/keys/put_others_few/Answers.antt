use Rattle.house.proofs.Others.{others_unlinked}
use Rattle.std.proofs.Common.{rules}
use Rattle.house.proofs.keys.put_others_few.Goals as goal

pub returns : goal.returns
returns c = search (others_unlinked, rules)
