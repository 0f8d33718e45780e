use Rattle.house.proofs.Weights.{record_sizes}
use Rattle.std.proofs.Common.{rules}
use Rattle.house.proofs.sizes.add_record.Goals as goal

pub returns-then-is_formed : goal.returns-then-is_formed
returns-then-is_formed c = search (record_sizes, rules)

pub returns : goal.returns
returns c = search (record_sizes, rules)
