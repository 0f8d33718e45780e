use Rattle.house.proofs.Weights.{put_sizes}
use Rattle.std.proofs.Common.{rules}
use Rattle.house.proofs.sizes.add_put.Goals as goal

pub returns-then-limit-put : goal.returns-then-limit-put
returns-then-limit-put c = search (put_sizes, rules)

pub returns : goal.returns
returns c = search (put_sizes, rules)
