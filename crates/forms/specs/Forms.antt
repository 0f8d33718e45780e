-- A line of the house form, as the code writes it from a line of a header. Bytes by their numbers: `"` 34, `,` 44, `[` 91, `]` 93.
-- Assumes nothing.
use Rattle.std.specs.Prelude.{◌≡◌, Bool, true, false, not, ◌||◌, ◌&&◌, List, [], ◌∷◌, ◌++◌, Option, None, Some}
use Rattle.values.specs.Bytes.{Bytes, ascii, begins, same}
use Rattle.values.specs.Integer.{u64_read}
use Rattle.values.specs.Value.{meaning, meaning_of, value_of}
use Rattle.values.specs.Field.{Field, written_field}
use Rattle.values.specs.Written.{Puts}
use Rattle.values.specs.declared.sink.Sink.{Sink}
use Rattle.rules.specs.Known.{KnownField, is_numeric}
use Rattle.rules.specs.Map.{is_some, fields_at, field_keyed, known_named}
use Rattle.rules.specs.Meaning.{number_or_word}
use Rattle.rules.specs.House.{closes, needs_quotes, write_known}
use Rattle.records.specs.Keys.{kind_by, version_in, key_bytes}
use Rattle.records.specs.Tags.{after_id}
use Rattle.records.specs.declared.key.MapContext.{MapContext}

-- the rule of quoting; `meta`: the map is a META, from 4.3
unfoldable pub quotes : Bool → Bytes → Bytes → Bool
quotes meta key t = same key (ascii "Description") || elim (meta && (same key (ascii "Values") && begins 91 t)) [ true ↦ not (closes 93 t) | false ↦ needs_quotes t ]

-- a field with this key and meaning
abbrev pub field_by : Bool → Bytes → Bytes → Field
field_by meta key t = record { key = key; value = value_of (quotes meta key t) t }

-- an integer by its number; `number`: the value may be one
abbrev pub shown_value : Bool → Bytes → Bytes
shown_value true t = write_known (number_or_word t (u64_read t))
shown_value false t = t

-- the text s was written as the number that it spells, if its meaning spells the same
pub record PutsNumber (meta : Bool) (key s : Bytes) (q : Bool) (given old : Bytes) (at r : Sink) (new : Bytes) : Type 0 where
  pub is : same key (ascii "Description") ≡ false → u64_read (meaning q s) ≡ u64_read s → Puts given old at (written_field (field_by meta key (shown_value true (meaning q s)))) r new

-- the fields of a map
abbrev pub fields_in : MapContext → Bytes → List Field
fields_in x s = fields_at x.brackets s x.start

-- a known field after a `,`, if it stands there
abbrev pub known_text : Bool → Bytes → Bool → Option Field → Bytes
known_text meta name number None = []
known_text meta name number (Some f) = 44 ∷ written_field (field_by meta name (shown_value number (meaning_of f.value)))

-- the field of this name was written, if there is one; a number is never a Description
pub record PutsKnown (meta : Bool) (fs : List Field) (name : Bytes) (number : Bool) (given old : Bytes) (at r : Sink) (new : Bytes) : Type 0 where
  pub is : number && same name (ascii "Description") ≡ false → Puts given old at (known_text meta name number (field_keyed name fs)) r new

-- the known fields of these rows, an integer as its number
unfoldable pub listed_fields : Bool → List Field → List KnownField → Bytes
listed_fields meta fs [] = []
listed_fields meta fs (r ∷ rs) = known_text meta r.name (is_numeric r.reads) (field_keyed r.name fs) ++ listed_fields meta fs rs

-- the known fields of a map after its ID
abbrev pub known_texts : MapContext → Bytes → Bytes
known_texts x s = listed_fields x.brackets (fields_in x s) (after_id (kind_by x.key))

-- a field after a `,`, unless it is a known one
unfoldable pub other_text : MapContext → Bytes → Bytes → Bytes
other_text x name t = elim (is_some (known_named (version_in x) (key_bytes x) name)) [ true ↦ [] | false ↦ 44 ∷ written_field (field_by x.brackets name t) ]

unfoldable pub others_text : MapContext → List Field → Bytes
others_text x [] = []
others_text x (f ∷ fs) = other_text x f.key (meaning_of f.value) ++ others_text x fs
