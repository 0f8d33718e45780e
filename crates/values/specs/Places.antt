-- Where the code's answers stand: each place is a sum of lengths of what was read. Assumes nothing.
use Rattle.std.specs.Prelude.{ℕ, ◌+◌, Bool, true, false, ◌&&◌, length, drop, Option, None, Some}
use mathlib.Core.List.{[], ◌∷◌, tail}
use Rattle.values.specs.Bytes.{Bytes, is, begins, BACKSLASH, COMMA, QUOTE}
use Rattle.values.specs.Value.{Value, quoted, bare, written, is_escapable, read_quoted, read_value}
use Rattle.values.specs.Field.{Field, written_field, read_key, read_field}
use Rattle.values.specs.declared.cursor.Cursor.{Cursor}
use Rattle.values.specs.declared.string.Text.{Text}

abbrev pub cursor_at : ℕ → Cursor
cursor_at i = record { at = i }

-- the first of the bytes that stand at i
abbrev pub byte_from : ℕ → Bytes → Option (ℕ × Cursor)
byte_from i [] = None
byte_from i (b ∷ bs) = Some (b, cursor_at (i + 1))

abbrev pub byte_at : Bytes → ℕ → Option (ℕ × Cursor)
byte_at s i = byte_from i (drop i s)

-- a byte that a backslash may stand before is the first
abbrev pub escapes : Bytes → Bool
escapes [] = false
escapes (b ∷ bs) = is_escapable b

-- the first byte of their meaning: a backslash before such a byte is passed over
abbrev pub unescaped_from : Bool → ℕ → Bytes → Option (ℕ × Cursor)
unescaped_from false i bs = byte_from i bs
unescaped_from true i [] = None
unescaped_from true i (b ∷ bs) = elim (is BACKSLASH b && escapes bs) [ true ↦ byte_from (i + 1) bs | false ↦ Some (b, cursor_at (i + 1)) ]

unfoldable pub unescaped_at : Bool → Bytes → ℕ → Option (ℕ × Cursor)
unescaped_at q s i = unescaped_from q i (drop i s)

-- a value that stands at i: its text's place, without quotes
abbrev pub text_at : ℕ → Value → Text
text_at i (quoted t) = record { start = i + 1; end = i + 1 + length t; quoted = true }
text_at i (bare t) = record { start = i; end = i + length t; quoted = false }

abbrev pub value_placed : ℕ → Option (Value × Bytes) → Option (Text × Cursor)
value_placed i None = None
value_placed i (Some p) = Some (text_at i p.0, cursor_at (i + length (written p.0)))

-- the `"` that ends a quoted text which stands at i, and past it
abbrev pub closing_at : ℕ → Option (Bytes × Bytes) → Option (ℕ × Cursor)
closing_at i None = None
closing_at i (Some p) = Some (i + length p.0, cursor_at (i + length p.0 + 1))

-- a quoted value that stands at i, with its first `"`
abbrev pub escaped_from : ℕ → Bytes → Option (Text × Cursor)
escaped_from i bs = elim (begins QUOTE bs) [ true ↦ value_placed i (read_quoted (tail bs)) | false ↦ None ]

unfoldable pub value_at : Bool → Bytes → ℕ → Option (Text × Cursor)
value_at brackets s i = value_placed i (read_value brackets (drop i s))

-- a key that stands at i: its `=`, and past that
abbrev pub key_placed : ℕ → Option (Bytes × Bytes) → Option (ℕ × Cursor)
key_placed i None = None
key_placed i (Some p) = Some (i + length p.0, cursor_at (i + length p.0 + 1))

unfoldable pub key_at : Bytes → ℕ → Option (ℕ × Cursor)
key_at s i = key_placed i (read_key (drop i s))

-- a field that stands at i: its `=`, its value's text, and past it
abbrev pub field_placed : ℕ → Option (Field × Bytes) → Option (ℕ × Text × Cursor)
field_placed i None = None
field_placed i (Some p) =
    Some (i + length p.0.key, text_at (i + length p.0.key + 1) p.0.value, cursor_at (i + length (written_field p.0)))

unfoldable pub field_at : Bool → Bytes → ℕ → Option (ℕ × Text × Cursor)
field_at brackets s i = field_placed i (read_field brackets (drop i s))

-- a `,` at i, and past it
abbrev pub separator_placed : ℕ → Bool → Option Cursor
separator_placed i true = Some (cursor_at (i + 1))
separator_placed i false = None

unfoldable pub separator_at : Bytes → ℕ → Option Cursor
separator_at s i = separator_placed i (begins COMMA (drop i s))
