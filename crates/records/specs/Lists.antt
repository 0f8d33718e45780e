-- Names with `,`, 44, between them. Assumes nothing.
use Rattle.std.specs.Prelude.{true, false, List, [], ◌∷◌}
use Rattle.values.specs.Bytes.{Bytes, is}
use Rattle.rules.specs.Lines.{push}

unfoldable pub listed_row : Bytes → List Bytes
listed_row [] = [] ∷ []
listed_row (b ∷ bs) = elim (is 44 b) [ true ↦ [] ∷ listed_row bs | false ↦ push b (listed_row bs) ]
