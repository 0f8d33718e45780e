use Rattle.house.proofs.Copies.{text_same}
use Rattle.std.proofs.Common.{rules}
use Rattle.house.proofs.copying.compare_text.Goals as goal

pub returns-then-eq : goal.returns-then-eq
returns-then-eq c = text_same _ _ _ _ (search rules) (search rules) (search rules) c.eq.ensures c.if-eq.true (search rules)
