-- Document 01, "House form": how a meaning is written, and the house-form call. Assumes nothing.
use Rattle.std.specs.Prelude.{ℕ, zero, suc, ◌+◌, Bool, true, false, not, ◌||◌, ◌&&◌, List, [], ◌∷◌, ◌++◌, map, leb, length, Option, None, Some}
use Rattle.values.specs.Bytes.{Bytes, ascii, is, empty, begins, any, same, CLOSE, COMMA, EQUALS, GREATER, LESS, OPEN, QUOTE, TAB}
use Rattle.values.specs.Integer.{decimal}
use Rattle.values.specs.Value.{is_stop, value_of}
use Rattle.values.specs.Field.{Field, written_field}
use Rattle.rules.specs.Sizes.{Limits}
use Rattle.rules.specs.Lines.{write_line, write_lines}
use Rattle.rules.specs.Version.{Version, write_version}
use Rattle.rules.specs.Known.{kind_of, known}
use Rattle.rules.specs.Map.{is_meta}
use Rattle.rules.specs.Record.{Record, fileformat, fields, text}
use Rattle.rules.specs.Columns.{column_names}
use Rattle.rules.specs.Reading.{State, done, ready, Reading, reading}
use Rattle.rules.specs.Meaning.{Known, number, word, Saying, says, lists, Meaning, header_meaning}

-- the first c is the last byte
unfoldable pub closes : ℕ → Bytes → Bool
closes c [] = false
closes c (b ∷ bs) = elim (is c b) [ true ↦ empty bs | false ↦ closes c bs ]

-- another value is quoted only if it begins `"` or has `,` or `>`
abbrev pub needs_quotes : Bytes → Bool
needs_quotes t = begins QUOTE t || any is_stop t

-- META's Values from 4.3: bare when it begins `[` and its first `]` is its last byte, quoted when it begins `[` otherwise
abbrev pub is_values : Version → Bytes → Bytes → Bytes → Bool
is_values v k key t = is_meta v k && (same key (ascii "Values") && begins OPEN t)

-- a value under the key Description is quoted, in every kind
unfoldable pub is_written_quoted : Version → Bytes → Bytes → Bytes → Bool
is_written_quoted v k key t = same key (ascii "Description") || elim (is_values v k key t) [ true ↦ not (closes CLOSE t) | false ↦ needs_quotes t ]

abbrev pub write_field : Version → Bytes → Bytes → Bytes → Field
write_field v k key t = record { key = key; value = value_of (is_written_quoted v k key t) t }

-- integers stand without sign or leading zeros
abbrev pub write_known : Known → Bytes
write_known (number n) = decimal n
write_known (word t) = t

abbrev pub name_of_tag : ℕ → Bytes
name_of_tag zero = ascii "ID"
name_of_tag (suc zero) = ascii "Child"
name_of_tag (suc (suc n)) = ascii "Derived"

-- an ID goes under its tag
abbrev pub key_written : ℕ → Bytes → Bytes
key_written tag name = elim (same name (ascii "ID")) [ true ↦ name_of_tag tag | false ↦ name ]

-- known fields in the table's order
unfoldable pub known_fields : Version → Bytes → ℕ → List Bytes → List (Option Known) → List Field
known_fields v k tag [] xs = []
known_fields v k tag (n ∷ ns) [] = []
known_fields v k tag (n ∷ ns) (None ∷ xs) = known_fields v k tag ns xs
known_fields v k tag (n ∷ ns) (Some x ∷ xs) = write_field v k (key_written tag n) (write_known x) ∷ known_fields v k tag ns xs

-- then the rest as they stood
unfoldable pub other_fields : Version → Bytes → List (Bytes × Bytes) → List Field
other_fields v k [] = []
other_fields v k (p ∷ ps) = write_field v k p.0 p.1 ∷ other_fields v k ps

unfoldable pub record_of : Version → Bytes → Saying → Record
record_of v k (says t) = text k t
record_of v k (lists tag xs ps) = fields k (known_fields v k tag (known (kind_of k)) xs ++ other_fields v k ps)

unfoldable pub records_of : Version → List (Bytes × List Saying) → List Record
records_of v [] = []
records_of v (g ∷ gs) = map (record_of v g.0) g.1 ++ records_of v gs

-- fields parted by `,`
unfoldable pub write_more : List Field → Bytes
write_more [] = []
write_more (f ∷ fs) = COMMA ∷ written_field f ++ write_more fs

unfoldable pub write_fields : List Field → Bytes
write_fields [] = []
write_fields (f ∷ fs) = written_field f ++ write_more fs

unfoldable pub write_record : Record → Bytes
write_record (fileformat v) = ascii "##fileformat=" ++ write_version v
write_record (fields k fs) = ascii "##" ++ (k ++ EQUALS ∷ LESS ∷ (write_fields fs ++ GREATER ∷ []))
write_record (text k t) = ascii "##" ++ (k ++ EQUALS ∷ t)

-- tab-parted
unfoldable pub parted : List Bytes → Bytes
parted [] = []
parted (x ∷ []) = x
parted (x ∷ y ∷ xs) = x ++ TAB ∷ parted (y ∷ xs)

-- FORMAT stands if it stood
unfoldable pub write_columns : Bool → List Bytes → Bytes
write_columns format samples = parted (column_names ++ elim format [ true ↦ ascii "FORMAT" ∷ samples | false ↦ [] ])

-- fileformat, the typed kinds and the other keys, column line
unfoldable pub house_lines : Meaning → List Bytes
house_lines m =
    write_record (fileformat m.version) ∷ (map write_record (records_of m.version m.groups) ++ write_columns m.format m.samples ∷ [])

unfoldable pub house_form : Meaning → Bytes
house_form m = write_lines (house_lines m)

-- what a house-form call answers: a reading, and the form, empty if refused
pub record HouseReading : Type 0 where
  pub number : ℕ
  pub line : ℕ
  pub start : ℕ
  pub form : Bytes

-- the first line of the form that is too long: its number from 1 and its start
unfoldable pub too_long : ℕ → ℕ → ℕ → List Bytes → Option (ℕ × ℕ)
too_long limit n start [] = None
too_long limit n start (l ∷ ls) = elim (leb (length l) limit) [
  | true ↦ too_long limit (suc n) (start + length (write_line l)) ls
  | false ↦ Some (suc n, start)
]

abbrev pub refused_form : ℕ → ℕ → ℕ → HouseReading
refused_form n l s = record { number = n; line = l; start = s; form = [] }

-- 28, or the form
abbrev pub fitted : ℕ → Reading → Bytes → HouseReading
fitted room r form = elim (leb (length form) room) [
  | true ↦ record { number = 0; line = r.line; start = r.start; form = form }
  | false ↦ refused_form 28 0 0
]

abbrev pub lined : ℕ → Reading → Bytes → Option (ℕ × ℕ) → HouseReading
lined room r form None = fitted room r form
lined room r form (Some p) = refused_form 2 p.0 p.1

-- after an accepted reading: 27, form too long; 2, its first line too long; 28
unfoldable pub form_answer : Limits → ℕ → Reading → Meaning → HouseReading
form_answer lim room r m = elim (leb (length (house_form m)) lim.header) [
  | true ↦ lined room r (house_form m) (too_long lim.line 0 0 (house_lines m))
  | false ↦ refused_form 27 0 0
]

abbrev pub house_of : Limits → ℕ → Reading → State → HouseReading
house_of lim room r State.empty = refused_form r.number r.line r.start
house_of lim room r (ready v rs) = refused_form r.number r.line r.start
house_of lim room r (done v rs c) = elim r.number [
  | zero ↦ form_answer lim room r (header_meaning v rs c)
  | suc n ↦ refused_form r.number r.line r.start
]

-- the call on a header, with an output of `room` bytes
unfoldable pub house : Limits → Option Version → ℕ → ℕ → Bytes → HouseReading
house lim imposed tableRoom room h = let r = reading lim imposed tableRoom h in house_of lim room r r.state
