-- A map as the code reads it: one field after the other, with the texts that are kept. Assumes nothing.
use Rattle.std.specs.Prelude.{ℕ, ◌+◌, ◌≤◌, ◌<◌, ◌≡◌, Bool, true, false, not, ◌||◌, ◌&&◌, List, [], ◌∷◌, ◌++◌, map, length, drop, Option, None, Some, Result, Ok, Err}
use Rattle.values.specs.Bytes.{Bytes, ascii, is, empty, begins}
use Rattle.values.specs.Value.{meaning}
use Rattle.values.specs.Integer.{u64_read}
use Rattle.values.specs.Field.{Field, written_field, read_field}
use Rattle.values.specs.Places.{cursor_at}
use Rattle.values.specs.declared.string.Text.{Text}
use Rattle.rules.specs.Answer.{ok, refuse, unless, first, judged}
use Rattle.rules.specs.Version.{Version}
use Rattle.rules.specs.Known.{Kind, Reads, KnownField, any_text, a_number, a_type, an_integer, rows, row_named, id_field, number_field, type_field, description_field, is_in, kind_of, required, name_of, tag_of, letters, types, always_map}
use Rattle.rules.specs.Reserved.{reserved_pages}
use Rattle.rules.specs.Map.{After, more, done, wrong, after, Scan, scan, read_fields, is_meta, known_named, check_fields, value_named, misdeclared, read_map}
use Rattle.rules.specs.Entry.{text_named}
use Rattle.rules.specs.Spelling.{has_odd}
use Rattle.records.specs.Refusals.{number}
use Rattle.records.specs.Keys.{case_bytes, version_in, key_bytes}
use Rattle.records.specs.Numbers.{is_count}
use Rattle.records.specs.Tags.{tag_row, tag_name, is_required, is_kept}
use Rattle.records.specs.Fields.{text_in, meaning_in}
use Rattle.records.specs.declared.key.MapKey.{MapKey}
use Rattle.records.specs.declared.key.MapContext.{MapContext}
use Rattle.records.specs.declared.tag.Tag.{Tag}
use Rattle.records.specs.declared.tag.Tag.TheVariants.{Id, Number, ValueType, Description, Length, Md5, Url, Idx, Other}
use Rattle.records.specs.declared.map.Slots.{Slots}
use Rattle.records.specs.declared.map.After.{After as AfterRead}
use Rattle.records.specs.declared.map.After.TheVariants as afters
use Rattle.records.specs.declared.map.FieldStep.{FieldStep}
use Rattle.records.specs.declared.map.FieldStep.TheVariants as step
use Rattle.records.specs.declared.map.Tally.{Tally}
use Rattle.records.specs.declared.refusal.Refusal.{Refusal}
use Rattle.values.specs.declared.cursor.Cursor.{Cursor}

abbrev pub opened : ℕ → Bool → Option Cursor
opened at true = Some (cursor_at (at + 1))
opened at false = None

abbrev pub opens_at : Bytes → ℕ → Option Cursor
opens_at s at = opened at (begins 60 (drop at s))

-- `>` is all that is left
abbrev pub closes_as_map : Bytes → Bool
closes_as_map [] = false
closes_as_map (b ∷ bs) = is 62 b && empty bs

abbrev pub closes_at : Bytes → ℕ → Bool
closes_at s at = closes_as_map (drop at s)

abbrev pub after_placed : ℕ → After → AfterRead
after_placed at (more r) = afters.More (cursor_at (at + 1))
after_placed at done = afters.Closed
after_placed at wrong = afters.Other

abbrev pub after_at : Bytes → ℕ → AfterRead
after_at s at = after_placed at (after (drop at s))

-- a check's number, 0 where it passed
abbrev pub check_number : Result Bool Refusal → ℕ
check_number (Ok odd) = 0
check_number (Err x) = number x

-- 11 to 13 of a value's bytes, of which an integer is read as they stand; `q`: they stand between quotes
abbrev pub misread_raw : Version → Kind → Bytes → Bool → Reads → ℕ
misread_raw v kind s q any_text = 0
misread_raw v kind s q a_number = unless (is_count s || is_in (meaning q s) (letters v kind)) 11
misread_raw v kind s q a_type = unless (is_in (meaning q s) (types kind)) 12
misread_raw v kind s q an_integer = unless (is_count s) 13

abbrev pub raw_refusal : Version → Kind → Bytes → Bool → Option KnownField → ℕ
raw_refusal v kind s q None = 0
raw_refusal v kind s q (Some r) = misread_raw v kind s q r.reads

-- what passed was spelled oddly or not
abbrev pub OddIs : Bool → Result Bool Refusal → Type 0
OddIs odd (Ok x) = x ≡ odd
OddIs odd (Err x) = Unit {0}

-- a value was checked: its refusal, 0 if none, and how it was spelled if it passed
pub record Checked (r : Result Bool Refusal) (n : ℕ) (odd : Bool) : Type 0 where
  pub refusal : check_number r ≡ n
  pub spelled : OddIs odd r

-- the texts that are kept
abbrev pub no_slots : Slots
no_slots = record { id = None; number = None; kind = None; description = None; plain = true; odd = false }

abbrev pub slots_of : Option (Text × ℕ) → Option (Text × ℕ) → Option (Text × ℕ) → Option (Text × ℕ) → Bool → Bool → Slots
slots_of id number kind description plain odd = record { id = id; number = number; kind = kind; description = description; plain = plain; odd = odd }

abbrev pub filled_as : ℕ → ℕ → Bool → ℕ → Option (Text × ℕ)
filled_as start end quoted name = Some (record { start = start; end = end; quoted = quoted }, name)

abbrev pub get : Tag → Slots → Option (Text × ℕ)
get Id x = x.id
get Number x = x.number
get ValueType x = x.kind
get Description x = x.description
get Length x = None
get Md5 x = None
get Url x = None
get Idx x = None
get Other x = None

abbrev pub mixed : Bool → Slots → Slots
mixed o x = record { id = x.id; number = x.number; kind = x.kind; description = x.description; plain = false; odd = o }

abbrev pub put_slot : Tag → Option (Text × ℕ) → Bool → Slots → Slots
put_slot Id t o x = record { id = t; number = x.number; kind = x.kind; description = x.description; plain = x.plain; odd = o }
put_slot Number t o x = record { id = x.id; number = t; kind = x.kind; description = x.description; plain = x.plain; odd = o }
put_slot ValueType t o x = record { id = x.id; number = x.number; kind = t; description = x.description; plain = x.plain; odd = o }
put_slot Description t o x = record { id = x.id; number = x.number; kind = x.kind; description = t; plain = x.plain; odd = o }
put_slot Length t o x = mixed o x
put_slot Md5 t o x = mixed o x
put_slot Url t o x = mixed o x
put_slot Idx t o x = mixed o x
put_slot Other t o x = mixed o x

-- a field that stands at a place, with a `,` after it
abbrev pub FieldThen : Bool → Bytes → ℕ → Field → Type 0
FieldThen m s at f = read_field m (drop at s) ≡ Some (f, 44 ∷ drop (at + length (written_field f) + 1) s)

-- fields one after the other from a place on, up to another
abbrev pub FieldsFrom : Bool → Bytes → ℕ → List Field → ℕ → Type 0
FieldsFrom m s at [] upto = at ≡ upto
FieldsFrom m s at (f ∷ fs) upto = FieldThen m s at f × FieldsFrom m s (at + length (written_field f) + 1) fs upto

abbrev pub keys_of : List Field → List Bytes
keys_of fs = map (λ (f : Field). f.key) fs

-- whether one of these fields has the key
pub record HasKey (m : Bool) (s : Bytes) (start upto : ℕ) (key : Bytes) (r : Bool) : Type 0 where
  pub among : (fs : List Field) → FieldsFrom m s start fs upto → r ≡ is_in key (keys_of fs)

-- no field that begins before r has the key of an earlier one
pub record Distinct (x : MapContext) (s : Bytes) (r : ℕ) : Type 0 where
  pub apart : (before : List Field) (at : ℕ) → FieldsFrom x.brackets s x.start before at → (f : Field) (rest : Bytes) → read_field x.brackets (drop at s) ≡ Some (f, rest)
      → at < r → is_in f.key (keys_of before) ≡ false

-- the text of a field, and which name stood for the ID
abbrev pub slotted : Option (Bytes × Text) → Option (Text × ℕ)
slotted None = None
slotted (Some p) = Some (p.1, tag_of p.0)

-- the ID's text, and which name stands for it; the fields stand at the place `at`
abbrev pub id_slot : Version → Bytes → ℕ → List Field → Option (Text × ℕ)
id_slot v k at fs = slotted (text_named v k (ascii "ID") at fs)

abbrev pub names_of : Version → Bytes → List Field → List Bytes
names_of v k fs = map (λ (f : Field). name_of v k f.key) fs

-- whether each of these fields is of those that are kept
abbrev pub all_kept : Version → Bytes → List Field → Bool
all_kept v k [] = true
all_kept v k (f ∷ fs) = is_required (known_named v k f.key) && all_kept v k fs

-- the texts that are kept of the fields that stand at `start`, each under the tag of a field that the kind has
pub record Held (v : Version) (k : Bytes) (start : ℕ) (fs : List Field) (slots : Slots) : Type 0 where
  pub each : (t : Tag) → is_kept t ≡ true → row_named (tag_name t) (rows (kind_of k)) ≡ tag_row t
      → get t slots ≡ slotted (text_named v k (tag_name t) start fs)
  pub plainly : slots.plain ≡ all_kept v k fs
  pub spelling : slots.odd ≡ has_odd v k fs

-- the fields from the first up to `at` were read, and none was refused
pub record Walk (x : MapContext) (s : Bytes) (before : List Field) (at : ℕ) (slots : Slots) : Type 0 where
  pub fields : FieldsFrom x.brackets s x.start before at
  pub fine : check_fields (version_in x) (key_bytes x) [] before ≡ 0
  pub held : Held (version_in x) (key_bytes x) x.start before slots

-- whether a field of this name, which stands at this place, stood before
pub record Repeats (x : MapContext) (s : Bytes) (at : ℕ) (field : Bytes) (t : Tag) (slots : Slots) (r : Bool) : Type 0 where
  pub is : (before : List Field) → tag_row t ≡ known_named (version_in x) (key_bytes x) field → Walk x s before at slots
      → (f : Field) (rest : Bytes) → read_field x.brackets (drop at s) ≡ Some (f, rest) → field ≡ f.key
      → r ≡ is_in (name_of (version_in x) (key_bytes x) field) (names_of (version_in x) (key_bytes x) before)

-- the refusal of fields, and of what ended them
abbrev pub scan_refusal : Version → Bytes → Scan → ℕ
scan_refusal v k x = first (check_fields v k [] x.0 ∷ x.1 ∷ [])

-- these fields in front of those that are scanned from a place on
abbrev pub scanned_from : Bool → Bytes → List Field → ℕ → ℕ → Scan
scanned_from m s before at fuel = (before ++ (scan fuel m (drop at s)).0, (scan fuel m (drop at s)).1)

-- whatever follows, the fields are refused by this number
abbrev pub RefusedFrom : MapContext → Bytes → List Field → ℕ → ℕ → Type 0
RefusedFrom x s before at n =
    (fuel : ℕ) → length (drop at s) ≤ fuel → scan_refusal (version_in x) (key_bytes x) (scanned_from x.brackets s before at fuel) ≡ n

-- a field that passed, and what is to be kept of it
pub record Taken (x : MapContext) (s : Bytes) (before : List Field) (at : ℕ) (slots : Slots) (g : Tag) (t : Option (Text × ℕ)) (odd : Bool) (next : ℕ) : Type 0 where
  pub field : Field
  pub read : read_field x.brackets (drop at s) ≡ Some (field, drop next s)
  pub size : next ≡ at + length (written_field field)
  pub fine : check_fields (version_in x) (key_bytes x) [] (before ++ field ∷ []) ≡ 0
  pub held : Held (version_in x) (key_bytes x) x.start (before ++ field ∷ []) (put_slot g t odd slots)

abbrev pub TakenIs : MapContext → Bytes → List Field → ℕ → Slots → Result (Tag × ℕ × ℕ × Bool × ℕ × Bool × Cursor) Refusal → Type 0
TakenIs x s before at slots (Ok (g, start, end, quoted, name, odd, next)) = Taken x s before at slots g (filled_as start end quoted name) odd next.at
TakenIs x s before at slots (Err y) = RefusedFrom x s before at (number y)

abbrev pub TakenMoves : Bytes → ℕ → Result (Tag × ℕ × ℕ × Bool × ℕ × Bool × Cursor) Refusal → Type 0
TakenMoves s at (Ok (g, start, end, quoted, name, odd, next)) = (at < next.at) × (next.at ≤ length s)
TakenMoves s at (Err x) = Unit {0}

-- the field at a place was taken, or refused, whatever fields were read before it
pub record TakesField (x : MapContext) (s : Bytes) (at : ℕ) (slots : Slots) (r : Result (Tag × ℕ × ℕ × Bool × ℕ × Bool × Cursor) Refusal) : Type 0 where
  pub moves : TakenMoves s at r
  pub is : (before : List Field) → Walk x s before at slots → TakenIs x s before at slots r

abbrev pub StepIs : MapContext → Bytes → List Field → ℕ → Slots → Result FieldStep Refusal → Type 0
StepIs x s before at slots (Ok (step.Next d g start end quoted name odd)) =
    (f : Field) × Walk x s (before ++ f ∷ []) d.at (put_slot g (filled_as start end quoted name) odd slots)
StepIs x s before at slots (Ok (step.Last kept)) =
    (f : Field) × Held (version_in x) (key_bytes x) x.start (before ++ f ∷ []) kept
    × (check_fields (version_in x) (key_bytes x) [] (before ++ f ∷ []) ≡ 0)
    × ((fuel : ℕ) → length (drop at s) ≤ fuel → scan fuel x.brackets (drop at s) ≡ (f ∷ [], 0))
StepIs x s before at slots (Err y) = RefusedFrom x s before at (number y)

abbrev pub StepMoves : Bytes → ℕ → Result FieldStep Refusal → Type 0
StepMoves s at (Ok (step.Next d g start end quoted name odd)) = (at < d.at) × (d.at ≤ length s)
StepMoves s at (Ok (step.Last kept)) = Unit {0}
StepMoves s at (Err x) = Unit {0}

-- the field at a place was read with what follows it
pub record ReadsField (x : MapContext) (s : Bytes) (at : ℕ) (slots : Slots) (r : Result FieldStep Refusal) : Type 0 where
  pub moves : StepMoves s at r
  pub is : (before : List Field) → Walk x s before at slots → StepIs x s before at slots r

abbrev pub tallied : Bool → ℕ → Tally
tallied odd n = record { odd = odd; fields = n }

abbrev pub fields_of : Slots → ℕ → Result (Slots × Tally) Refusal
fields_of slots n = Ok (slots, tallied slots.odd n)

-- what the fields of a map tell together
abbrev pub tally_of : Version → Bytes → List Field → Tally
tally_of v k fs = tallied (has_odd v k fs) (length fs)

-- the fields of a map, and what is kept of them
abbrev pub ScanIs : Version → Bytes → ℕ → Scan → Result (Slots × Tally) Refusal → Type 0
ScanIs v k start x (Ok (slots, tally)) = (scan_refusal v k x ≡ 0) × Held v k start x.0 slots × (tally ≡ tally_of v k x.0)
ScanIs v k start x (Err y) = scan_refusal v k x ≡ number y

-- one field or more were read
pub record WalksFields (x : MapContext) (s : Bytes) (r : Result (Slots × Tally) Refusal) : Type 0 where
  pub is : ScanIs (version_in x) (key_bytes x) x.start (scan (length (drop x.start s)) x.brackets (drop x.start s)) r

abbrev pub bare_at : Bytes → ℕ → Bool → Bool
bare_at s at needed = not needed && (empty (drop at s) || begins 62 (drop at s))

-- the fields after the `<` of a map
abbrev pub fields_after : Version → Bytes → Bytes → ℕ → Scan
fields_after v k s start = read_fields (is_meta v k) (always_map k) (drop start s)

-- the fields after the `<` of a map under a key of this case were read
pub record ReadsFields (v : Version) (key : MapKey) (s : Bytes) (start : ℕ) (r : Result (Slots × Tally) Refusal) : Type 0 where
  pub is : ScanIs v (case_bytes key) start (fields_after v (case_bytes key) s start) r

abbrev pub OpenIs : Version → Bytes → Bytes → ℕ → Result (Slots × Tally) Refusal → Type 0
OpenIs v k s at (Ok (slots, tally)) = (begins 60 (drop at s) ≡ true) × ScanIs v k (at + 1) (fields_after v k s (at + 1)) (Ok (slots, tally))
OpenIs v k s at (Err x) = read_map v k (drop at s) ≡ refuse (number x)

-- a map was read from its `<` on, before the required fields and the reserved IDs are looked at
pub record OpensMap (v : Version) (key : MapKey) (s : Bytes) (at : ℕ) (r : Result (Slots × Tally) Refusal) : Type 0 where
  pub is : OpenIs v (case_bytes key) s at r

abbrev pub MapIs : Version → Bytes → Bytes → ℕ → Result (Text × ℕ × Tally) Refusal → Type 0
MapIs v k s at (Ok (id, tag, tally)) = (fs : List Field) × (read_map v k (drop at s) ≡ ok fs) × (id_slot v k (at + 1) fs ≡ Some (id, tag)) × (tally ≡ tally_of v k fs)
MapIs v k s at (Err x) = read_map v k (drop at s) ≡ refuse (number x)

-- a map under a key of this case was parsed: the place of its ID, and which name stands for it
pub record ParsesMap (v : Version) (key : MapKey) (s : Bytes) (at : ℕ) (r : Result (Text × ℕ × Tally) Refusal) : Type 0 where
  pub is : MapIs v (case_bytes key) s at r

-- the kinds in which the ID alone is required, and those with a Description too; neither has reserved IDs
pub record Identified (key : MapKey) : Type 0 where
  pub needs : required (kind_of (case_bytes key)) ≡ id_field ∷ []
  pub free : reserved_pages (kind_of (case_bytes key)) ≡ []

pub record Described (key : MapKey) : Type 0 where
  pub needs : required (kind_of (case_bytes key)) ≡ id_field ∷ description_field ∷ []
  pub free : reserved_pages (kind_of (case_bytes key)) ≡ []
  pub known : row_named (ascii "Description") (rows (kind_of (case_bytes key))) ≡ Some description_field

-- INFO and FORMAT: the ID, a Number, a Type and a Description are required
pub record Full (key : MapKey) : Type 0 where
  pub needs : required (kind_of (case_bytes key)) ≡ id_field ∷ number_field ∷ type_field ∷ description_field ∷ []
  pub numbered : row_named (ascii "Number") (rows (kind_of (case_bytes key))) ≡ Some number_field
  pub typed : row_named (ascii "Type") (rows (kind_of (case_bytes key))) ≡ Some type_field
  pub described : row_named (ascii "Description") (rows (kind_of (case_bytes key))) ≡ Some description_field

-- an INFO or FORMAT map whose fields are all there: where its ID, Number and Type stand; its definition is still to be looked at
pub record Typed (v : Version) (k s : Bytes) (at : ℕ) (id : Text) (tag : ℕ) (number kind : Text) (tally : Tally) : Type 0 where
  pub fs : List Field
  pub read : read_map v k (drop at s) ≡ judged (misdeclared v k fs) fs
  pub named : id_slot v k (at + 1) fs ≡ Some (id, tag)
  pub id_is : value_named v k (ascii "ID") fs ≡ meaning_in s id
  pub number_is : value_named v k (ascii "Number") fs ≡ meaning_in s number
  pub kind_is : value_named v k (ascii "Type") fs ≡ meaning_in s kind
  pub raw : u64_read (value_named v k (ascii "Number") fs) ≡ u64_read (text_in s number)
  pub tallied : tally ≡ tally_of v k fs

abbrev pub TypedIs : Version → Bytes → Bytes → ℕ → Result (Text × ℕ × Text × Text × Tally) Refusal → Type 0
TypedIs v k s at (Ok (id, tag, number, kind, tally)) = Typed v k s at id tag number kind tally
TypedIs v k s at (Err x) = read_map v k (drop at s) ≡ refuse (number x)

abbrev pub typed_of : Text → ℕ → Text → Text → Tally → Result (Text × ℕ × Text × Text × Tally) Refusal
typed_of id name number kind tally = Ok (id, name, number, kind, tally)

-- an INFO or FORMAT map was parsed
pub record ParsesTyped (v : Version) (key : MapKey) (s : Bytes) (at : ℕ) (r : Result (Text × ℕ × Text × Text × Tally) Refusal) : Type 0 where
  pub is : TypedIs v (case_bytes key) s at r

-- whether a definition is the one that its ID asks for
pub record Declared (v : Version) (key : MapKey) (s : Bytes) (id number kind : Text) (r : Bool) : Type 0 where
  pub is : (at tag : ℕ) (tally : Tally) (t : Typed v (case_bytes key) s at id tag number kind tally) → misdeclared v (case_bytes key) t.fs ≡ unless r 18
