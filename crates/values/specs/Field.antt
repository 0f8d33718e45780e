-- Document 01, "Records": a field of a map. Assumes nothing.
use Rattle.std.specs.Prelude.{ℕ, Bool, true, false, not, ◌||◌, ◌&&◌, Option, None, Some}
use mathlib.Core.List.{◌∷◌, ◌++◌, tail}
use Rattle.values.specs.Bytes.{Bytes, ascii, is, empty, begins, any, before, from, same, COMMA, EQUALS, GREATER, LESS, QUOTE}
use Rattle.values.specs.Value.{Value, written, read_value}

pub record Field : Type 0 where
  pub key : Bytes
  pub value : Value

-- key through value, as it stands in the line
unfoldable pub written_field : Field → Bytes
written_field f = f.key ++ EQUALS ∷ written f.value

abbrev pub is_forbidden : ℕ → Bool
is_forbidden b = is COMMA b || is LESS b || is GREATER b || is QUOTE b

-- what a key's scan meets first: its `=`, or a byte that no key holds
abbrev pub ends_key : ℕ → Bool
ends_key b = is EQUALS b || is_forbidden b

-- one byte or more, without `,` `<` `>` `"`
abbrev pub is_key : Bytes → Bool
is_key k = not (empty k) && not (any is_forbidden k)

-- up to the first `=`, and past it
unfoldable pub read_key : Bytes → Option (Bytes × Bytes)
read_key bs = elim (is_key (before (is EQUALS) bs) && begins EQUALS (from (is EQUALS) bs)) [
  | true ↦ Some (before (is EQUALS) bs, tail (from (is EQUALS) bs))
  | false ↦ None
]

abbrev pub with_value : Bytes → Option (Value × Bytes) → Option (Field × Bytes)
with_value k None = None
with_value k (Some p) = Some (record { key = k; value = p.0 }, p.1)

-- only the value of Values may be bracketed
abbrev pub may_bracket : Bool → Bytes → Bool
may_bracket brackets k = brackets && same k (ascii "Values")

abbrev pub with_key : Bool → Option (Bytes × Bytes) → Option (Field × Bytes)
with_key brackets None = None
with_key brackets (Some p) = with_value p.0 (read_value (may_bracket brackets p.0) p.1)

-- `brackets`: the map is a META, from 4.3
unfoldable pub read_field : Bool → Bytes → Option (Field × Bytes)
read_field brackets bs = with_key brackets (read_key bs)
