use Rattle.house.proofs.Copies.{text_written_lem}
use Rattle.std.proofs.Common.{rules}
use Rattle.house.proofs.copying.put_text.Goals as goal

pub returns-then-text-out : goal.returns-then-text-out
returns-then-text-out c = text_written_lem _ _ _ _ (search rules) (search rules) (search rules) (search rules) (search rules)
