-- A line that stands as the house form writes it. Assumes nothing.
use Rattle.std.specs.Prelude.{ℕ, ◌≡◌, Bool, true, false, ◌||◌, ◌&&◌, List, [], ◌∷◌, ◌++◌, None}
use Rattle.values.specs.Bytes.{Bytes, ascii, is, COMMA, QUOTE}
use Rattle.values.specs.Value.{Value, quoted, bare, unescaped, meaning, meaning_of, escape, value_of}
use Rattle.values.specs.Field.{Field}
use Rattle.rules.specs.Answer.{ok}
use Rattle.rules.specs.Version.{Version}
use Rattle.rules.specs.Known.{KnownField, is_numeric, is_in, names}
use Rattle.rules.specs.Map.{is_some, fields_at, field_keyed, known_named}
use Rattle.rules.specs.Record.{Record, read_record}
use Rattle.rules.specs.House.{needs_quotes, write_more}
use Rattle.rules.specs.Claims.{All}
use Rattle.records.specs.Keys.{kind_by, version_in, key_bytes}
use Rattle.records.specs.Tags.{after_id}
use Rattle.records.specs.declared.key.MapContext.{MapContext}
use Rattle.forms.specs.Forms.{quotes, shown_value, listed_fields, others_text}
use Rattle.forms.specs.Lines.{IsEntry, house_line}
use Rattle.forms.specs.declared.formed.Passed.{Passed}
use Rattle.forms.specs.declared.formed.Passed.TheVariants.{More, Done, Other, Failed}

abbrev pub value_by : Bool → Bytes → Value
value_by true t = quoted t
value_by false t = bare t

-- a text that was read: a bare one needs no quotes, a quoted one escapes what must be and nothing else
abbrev pub Clean : Bool → Bytes → Type 0
Clean true t = escape (unescaped false t) ≡ t
Clean false t = needs_quotes t ≡ false

-- the form's value under this name, for one with this meaning
abbrev pub form_value : Bytes → Bool → Bytes → Value
form_value name number t = value_of (quotes false name (shown_value number t)) (shown_value number t)

-- the form spells a value of this name with this text so
pub record Spells (name : Bytes) (number q : Bool) (t : Bytes) (r : Bool) : Type 0 where
  pub is : r ≡ true → Clean q t → form_value name number (meaning q t) ≡ value_by q t

-- a field has this name, and stands as the form writes it
pub record Stands (name : Bytes) (number : Bool) (f : Field) : Type 0 where
  pub key : f.key ≡ name
  pub value : form_value name number (meaning_of f.value) ≡ f.value

abbrev pub PassesIs : Bytes → Bool → Bytes → ℕ → Passed → Type 0
PassesIs name number s at (More d) = (f : Field) × (fields_at false s at ≡ f ∷ fields_at false s d.at) × Stands name number f
PassesIs name number s at Done = (f : Field) × (fields_at false s at ≡ f ∷ []) × Stands name number f
PassesIs name number s at Other = Unit {0}
PassesIs name number s at Failed = Unit {0}

-- the first field from a place on was passed
pub record Passes (name : Bytes) (number : Bool) (s : Bytes) (at : ℕ) (p : Passed) : Type 0 where
  pub is : PassesIs name number s at p

-- the name is that of a known field
abbrev pub IsKnown : MapContext → Bytes → Type 0
IsKnown x name = is_some (known_named (version_in x) (key_bytes x) name) ≡ true

-- of these fields the form has first those of the rows, then the others, which is how they stand; no other field is a known one
pub record InForm (x : MapContext) (rs : List KnownField) (fs : List Field) : Type 0 where
  pub text : listed_fields false fs rs ++ others_text x fs ≡ write_more fs
  pub only : (name : Bytes) → is_in name (names rs) ≡ false → IsKnown x name → field_keyed name fs ≡ None

-- the same of the fields that are left
abbrev pub Rest : MapContext → List KnownField → Bytes → Passed → Type 0
Rest x rs s (More d) = InForm x rs (fields_at false s d.at)
Rest x rs s Done = Unit {0}
Rest x rs s Other = ⊥
Rest x rs s Failed = ⊥

-- a field of this name may have been passed: if what is left after it is in form, so is what was left before it
pub record Follows (name : Bytes) (number : Bool) (s : Bytes) (p r : Passed) : Type 0 where
  pub is : (x : MapContext) → x.brackets ≡ false → IsKnown x name → (row : KnownField) → row.name ≡ name → is_numeric row.reads ≡ number
      → (rs : List KnownField) → is_in name (names rs) ≡ false → Rest x rs s r → Rest x (row ∷ rs) s p

-- the same of the fields of these rows, after which no known one follows
pub record FollowsRows (rs : List KnownField) (s : Bytes) (p r : Passed) : Type 0 where
  pub is : (x : MapContext) → x.brackets ≡ false → All (λ (row : KnownField). IsKnown x row.name) rs → Rest x [] s r → Rest x rs s p

-- all fields from a place on are in form, and none is a known one
pub record InFormFrom (x : MapContext) (s : Bytes) (at : ℕ) (r : Bool) : Type 0 where
  pub is : r ≡ true → x.brackets ≡ false → InForm x [] (fields_at false s at)

-- the fields of a map: the ID, then fields in form
pub record IdFirst (x : MapContext) (fs : List Field) : Type 0 where
  pub id : Field
  pub rest : List Field
  pub are : fs ≡ id ∷ rest
  pub stands : Stands (ascii "ID") false id
  pub follow : InForm x (after_id (kind_by x.key)) rest

-- a quote, or past a `,` the first byte of ID or Description
abbrev pub is_telling : Bool → ℕ → Bool
is_telling comma b = is QUOTE b || (comma && (is 68 b || is 73 b))

-- there is such a byte; `comma`: a `,` stands before the first
unfoldable pub telling : Bool → Bytes → Bool
telling comma [] = false
telling comma (b ∷ bs) = is_telling comma b || telling (is COMMA b) bs

pub record BareMap (x : MapContext) (s : Bytes) (r : Bool) : Type 0 where
  pub is : r ≡ true → x.brackets ≡ false → IdFirst x (fields_at false s x.start)

pub record FormedMap (x : MapContext) (s : Bytes) (r : Bool) : Type 0 where
  pub is : r ≡ true → (x.brackets ≡ false) × (All (λ (row : KnownField). IsKnown x row.name) (after_id (kind_by x.key)) → IdFirst x (fields_at false s x.start))

-- a map or a text is its own line of the form
pub record FormedLine (v : Version) (s : Bytes) (r : Bool) : Type 0 where
  pub is : r ≡ true → (y : Record) → read_record v s ≡ ok y → IsEntry y → house_line v s ≡ s
