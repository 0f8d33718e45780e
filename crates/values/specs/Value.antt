-- Document 01, "Records": a value of a map's field, as it stands in the line and by its meaning; and how the house form writes one. Assumes nothing.
use Rattle.std.specs.Prelude.{ℕ, Bool, true, false, ◌||◌, ◌&&◌, Option, None, Some}
use mathlib.Core.List.{[], ◌∷◌, ◌++◌, tail}
use Rattle.values.specs.Bytes.{Bytes, is, begins, any, before, from, BACKSLASH, CLOSE, COMMA, GREATER, OPEN, QUOTE}

-- quoted: the bytes between the quotes; bare: the bytes as they stand, those of a bracketed value too
pub data Value : Type 0 where
  quoted bare : Bytes → Value

abbrev pub is_quoted : Value → Bool
is_quoted (quoted t) = true
is_quoted (bare t) = false

abbrev pub text_of : Value → Bytes
text_of (quoted t) = t
text_of (bare t) = t

-- as it stands in the line, with its quotes
unfoldable pub written : Value → Bytes
written (quoted t) = QUOTE ∷ t ++ QUOTE ∷ []
written (bare t) = t

-- what a backslash may stand before
abbrev pub is_escapable : ℕ → Bool
is_escapable b = is QUOTE b || is BACKSLASH b

-- a backslash just before `"` or a backslash is dropped, and that byte kept; any other stays, a last one too; `true`: one stood just before
unfoldable pub unescaped : Bool → Bytes → Bytes
unescaped true [] = BACKSLASH ∷ []
unescaped false [] = []
unescaped true (b ∷ bs) = elim (is_escapable b) [ true ↦ b ∷ unescaped false bs | false ↦ BACKSLASH ∷ b ∷ unescaped false bs ]
unescaped false (b ∷ bs) = elim (is BACKSLASH b) [ true ↦ unescaped true bs | false ↦ b ∷ unescaped false bs ]

-- what a text means, between quotes or bare
abbrev pub meaning : Bool → Bytes → Bytes
meaning true t = unescaped false t
meaning false t = t

abbrev pub meaning_of : Value → Bytes
meaning_of v = meaning (is_quoted v) (text_of v)

-- what was read, and the bytes after it
abbrev pub prepend : ℕ → Option (Bytes × Bytes) → Option (Bytes × Bytes)
prepend b None = None
prepend b (Some p) = Some (b ∷ p.0, p.1)

-- up to the next unescaped `"`, and past it; a backslash stands only before `"` or a backslash
unfoldable pub quoted_text : Bool → Bytes → Option (Bytes × Bytes)
quoted_text after [] = None
quoted_text true (b ∷ bs) = elim (is_escapable b) [ true ↦ prepend b (quoted_text false bs) | false ↦ None ]
quoted_text false (b ∷ bs) = elim (is QUOTE b) [ true ↦ Some ([], bs) | false ↦ prepend b (quoted_text (is BACKSLASH b) bs) ]

abbrev pub in_quotes : Option (Bytes × Bytes) → Option (Value × Bytes)
in_quotes None = None
in_quotes (Some p) = Some (quoted p.0, p.1)

-- from past its first `"`
abbrev pub read_quoted : Bytes → Option (Value × Bytes)
read_quoted bs = in_quotes (quoted_text false bs)

-- up to the next `,` or `>` or the end
abbrev pub is_stop : ℕ → Bool
is_stop b = is COMMA b || is GREATER b

abbrev pub read_bare : Bytes → Option (Value × Bytes)
read_bare bs = Some (bare (before is_stop bs), from is_stop bs)

-- through the first `]`
abbrev pub read_bracketed : Bytes → Option (Value × Bytes)
read_bracketed bs = Some (bare (before (is CLOSE) bs ++ CLOSE ∷ []), tail (from (is CLOSE) bs))

-- begins `[`, and a `]` follows
abbrev pub is_bracketed : Bytes → Bool
is_bracketed bs = begins OPEN bs && any (is CLOSE) bs

-- META's Values from 4.3
unfoldable pub read_values : Bytes → Option (Value × Bytes)
read_values bs = elim (is_bracketed bs) [ true ↦ read_bracketed bs | false ↦ read_bare bs ]

abbrev pub read_unquoted : Bool → Bytes → Option (Value × Bytes)
read_unquoted true bs = read_values bs
read_unquoted false bs = read_bare bs

-- `brackets`: the value may be bracketed
unfoldable pub read_value : Bool → Bytes → Option (Value × Bytes)
read_value brackets bs = elim (begins QUOTE bs) [ true ↦ read_quoted (tail bs) | false ↦ read_unquoted brackets bs ]

-- in quotes `"` and the backslash stand escaped, and nothing else
abbrev pub escaped_byte : ℕ → Bytes
escaped_byte b = elim (is_escapable b) [ true ↦ BACKSLASH ∷ b ∷ [] | false ↦ b ∷ [] ]

unfoldable pub escape : Bytes → Bytes
escape [] = []
escape (b ∷ bs) = escaped_byte b ++ escape bs

-- the text that has this meaning, between quotes or bare
abbrev pub spelling : Bool → Bytes → Bytes
spelling true v = escape v
spelling false v = v

abbrev pub value_of : Bool → Bytes → Value
value_of true v = quoted (escape v)
value_of false v = bare v

abbrev pub write_value : Bool → Bytes → Bytes
write_value quote v = written (value_of quote v)
