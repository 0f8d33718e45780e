use Rattle.std.proofs.Common.{rules}
use Rattle.values.proofs.Blocks.{befores}
use Rattle.values.proofs.utf8.byte_before.Goals as goal

pub returns-then-i-k : goal.returns-then-i-k
returns-then-i-k c = search (befores, rules)

pub returns : goal.returns
returns c = search (befores, rules)
