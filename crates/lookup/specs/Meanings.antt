-- What a text means, in a lent output. Assumes nothing.
use Rattle.std.specs.Prelude.{ℕ, true, false, [], leb, length, Option, Some, None}
use Rattle.values.specs.Bytes.{Bytes}

-- all of a text, or nothing where there is no room for all
unfoldable pub fitting : ℕ → Bytes → Bytes
fitting room t = elim (leb (length t) room) [ true ↦ t | false ↦ [] ]

unfoldable pub written_as : ℕ → Bytes → Option ℕ
written_as room t = elim (leb (length t) room) [ true ↦ Some (length t) | false ↦ None ]
