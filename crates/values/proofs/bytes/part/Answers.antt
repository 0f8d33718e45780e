use Rattle.values.proofs.Sames.{parts}
use Rattle.std.proofs.Common.{rules}
use Rattle.values.proofs.bytes.part.Goals as goal

pub returns-then-s-start : goal.returns-then-s-start
returns-then-s-start c = search (parts, rules)

pub returns-then-end-start : goal.returns-then-end-start
returns-then-end-start c = search (parts, rules)

pub returns-then-s-end : goal.returns-then-s-end
returns-then-s-end c = search (parts, rules)
