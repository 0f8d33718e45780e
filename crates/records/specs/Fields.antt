-- A field that was looked for by its key. Assumes nothing.
use Rattle.std.specs.Prelude.{ℕ, ◌+◌, ◌-◌, ◌≡◌, Bool, true, false, List, [], ◌∷◌, length, take, drop, Option, None, Some}
use Rattle.values.specs.Bytes.{Bytes, same}
use Rattle.values.specs.Integer.{u64_read}
use Rattle.values.specs.Value.{meaning, meaning_of}
use Rattle.values.specs.Field.{Field, written_field}
use Rattle.values.specs.Places.{text_at}
use Rattle.values.specs.declared.string.Text.{Text}
use Rattle.rules.specs.Map.{fields_at, field_keyed}

-- the bytes of a text, and what they mean
abbrev pub text_in : Bytes → Text → Bytes
text_in s t = take (t.end - t.start) (drop t.start s)

abbrev pub meaning_in : Bytes → Text → Bytes
meaning_in s t = meaning t.quoted (text_in s t)

-- the text of the first field with this key; the fields stand at the place `at`, parted by `,`
unfoldable pub text_keyed : Bytes → ℕ → List Field → Option Text
text_keyed key at [] = None
text_keyed key at (f ∷ fs) = elim (same f.key key) [
  | true ↦ Some (text_at (at + length f.key + 1) f.value)
  | false ↦ text_keyed key (at + length (written_field f) + 1) fs
]

-- a field and its value's text go together, and the text's bytes spell the integer that its meaning spells
abbrev pub FoundIs : Bytes → Option Field → Option Text → Type 0
FoundIs s None None = Unit {0}
FoundIs s None (Some t) = ⊥
FoundIs s (Some f) None = ⊥
FoundIs s (Some f) (Some t) = (meaning_in s t ≡ meaning_of f.value) × (u64_read (meaning_of f.value) ≡ u64_read (text_in s t))

-- the first field with this key was found where it stands, with its value
pub record FindsField (m : Bool) (s : Bytes) (start : ℕ) (key : Bytes) (r : Option Text) : Type 0 where
  pub place : r ≡ text_keyed key start (fields_at m s start)
  pub value : FoundIs s (field_keyed key (fields_at m s start)) r
