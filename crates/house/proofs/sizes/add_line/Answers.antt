use Rattle.house.proofs.Weights.{line_sizes}
use Rattle.std.proofs.Common.{rules}
use Rattle.house.proofs.sizes.add_line.Goals as goal

pub returns-then-limit-text : goal.returns-then-limit-text
returns-then-limit-text c = search (line_sizes, rules)

pub returns-then-ends_with_cr : goal.returns-then-ends_with_cr
returns-then-ends_with_cr c = search (line_sizes, rules)

pub returns : goal.returns
returns c = search (line_sizes, rules)
