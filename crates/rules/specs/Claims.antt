-- What the theorems say of a header, an entry or a table, beside the rules themselves. Assumes nothing.
use Rattle.std.specs.Prelude.{List, [], ◌∷◌, ◌++◌, ◌-◌, ◌^◌, ◌≤◌, ℕ, ◌+◌, zero, suc, ◌≡◌, length, drop, Bool, true, false, not, Option, None, Some}
use Rattle.rules.specs.Version.{Version}
use Rattle.rules.specs.Record.{Record, fileformat, fields, text, key_of, read_record}
use Rattle.rules.specs.Columns.{Columns}
use Rattle.rules.specs.Reading.{done, Reading, State, step}
use Rattle.rules.specs.Sizes.{Limits}
use Rattle.rules.specs.Known.{kind_of, is_typed}
use Rattle.rules.specs.Map.{field_named, value_named}
use Rattle.rules.specs.Meaning.{Meaning, header_meaning, tag_in}
use Rattle.rules.specs.House.{house_lines, house_form, too_long}
use Rattle.values.specs.Bytes.{Bytes, ascii, is, before, same, part, EQUALS}
use Rattle.values.specs.Utf8.{is_utf8}
use Rattle.rules.specs.Answer.{ok}
use Rattle.rules.specs.Entry.{Entry, map_kind, text_kind, fields_of, record_entry}
use Rattle.values.specs.Field.{Field, written_field}
use Rattle.rules.specs.Shown.{Part, well_formed, line_in, id_meaning, entry_record, id_part, entry_field_part, entry_key_part}
use Rattle.rules.specs.Lines.{pieces, line_of}

-- the property holds of each one of a list
abbrev pub All : {A : Type 0} → (A → Type 0) → List A → Type 0
All P [] = Unit {0}
All P (x ∷ xs) = P x × All P xs

-- its parts are below 2 to the 32
pub record Sized (v : Version) : Type 0 where
  pub major : v.major ≤ 2 ^ 32 - 1
  pub minor : v.minor ≤ 2 ^ 32 - 1

-- a version that may be imposed
abbrev pub SizedOption : Option Version → Type 0
SizedOption None = Unit {0}
SizedOption (Some v) = Sized v

-- accepted, with these records
pub record Accepted (v : Version) (rs : List Record) (c : Columns) (r : Reading) : Type 0 where
  pub number : r.number ≡ 0
  pub state : r.state ≡ done v rs c

-- a form within the limits
pub record Fits (lim : Limits) (m : Meaning) : Type 0 where
  pub header : length (house_form m) ≤ lim.header
  pub lines : too_long lim.line 0 0 (house_lines m) ≡ None

-- a line of the header, at its place
pub record LineAt (lim : Limits) (h : Bytes) (start : ℕ) (l : Bytes) : Type 0 where
  pub here : part h start (start + length l) ≡ l
  pub inside : start + length l ≤ length h
  pub short : length l ≤ lim.line
  pub utf8 : is_utf8 l ≡ true

-- an entry, and the record of its line
pub record Row (lim : Limits) (h : Bytes) (v : Version) (e : Entry) (r : Record) : Type 0 where
  pub start : ℕ
  pub line : Bytes
  pub there : LineAt lim h start line
  pub read : read_record v line ≡ ok r
  pub entry : e ≡ record_entry lim.counted v start line r

abbrev pub Rows : Limits → Bytes → Version → List Entry → List Record → Type 0
Rows lim h v [] [] = Unit {0}
Rows lim h v [] (r ∷ rs) = ⊥
Rows lim h v (e ∷ es) [] = ⊥
Rows lim h v (e ∷ es) (r ∷ rs) = Row lim h v e r × Rows lim h v es rs

-- number n of a list, from 0
abbrev pub nth : {A : Type 0} → List A → ℕ → Option A
nth [] n = None
nth (x ∷ xs) zero = Some x
nth (x ∷ xs) (suc n) = nth xs n

-- the i-th field and its part go together
abbrev pub PartOf : Bytes → Option Field → Option Part → Type 0
PartOf l None None = Unit {0}
PartOf l None (Some p) = ⊥
PartOf l (Some f) None = ⊥
PartOf l (Some f) (Some p) = (part l p.0 p.1 ≡ written_field f) × (p.1 ≤ length l)

-- an entry of a map is well formed, and shows its line, its ID and each of its fields as written
pub record ShowsMap (counted : Bool) (h : Bytes) (v : Version) (k : Bytes) (fs : List Field) (l : Bytes) (e : Entry) : Type 0 where
  pub formed : well_formed (length h) e ≡ true
  pub kind : e.kind ≡ map_kind (kind_of k)
  pub line : line_in h e ≡ l
  pub tag : e.tag ≡ tag_in (field_named v k (ascii "ID") fs)
  pub id : id_meaning h e ≡ value_named v k (ascii "ID") fs
  pub field : (i : ℕ) → PartOf h (nth fs i) (entry_field_part counted h v i (Some e))

-- an entry of another kind is well formed and shows its line, and neither an ID nor a field
pub record ShowsPlain (h : Bytes) (kind : ℕ) (l : Bytes) (e : Entry) : Type 0 where
  pub formed : well_formed (length h) e ≡ true
  pub is_kind : e.kind ≡ kind
  pub line : line_in h e ≡ l
  pub id : id_part (Some e) ≡ None
  pub field : (counted : Bool) (w : Version) (i : ℕ) → entry_field_part counted h w i (Some e) ≡ None

-- what is shown of a record's entry
abbrev pub Shows : Bool → Bytes → Version → Bytes → Entry → Record → Type 0
Shows counted h v l e (fileformat w) = ⊥
Shows counted h v l e (fields k fs) = ShowsMap counted h v k fs l e
Shows counted h v l e (text k t) = ShowsPlain h text_kind l e

-- an entry's line, read again, is its record, with the counts that it tells; where there are any, its key and its number of fields are shown
pub record Tells (counted : Bool) (h : Bytes) (v : Version) (e : Entry) (r : Record) : Type 0 where
  pub again : entry_record counted h v e ≡ Some r
  pub key : counted ≡ true → (p : Part) × (entry_key_part true (Some e) ≡ Some (p, length (fields_of r))) × (part h p.0 p.1 ≡ key_of r)

-- entry n of the entries shows the record r: its line, and what the calls show of it
pub record Shown (lim : Limits) (h : Bytes) (v : Version) (es : List Entry) (n : ℕ) (r : Record) : Type 0 where
  pub entry : Entry
  pub is : nth es n ≡ Some entry
  pub start : ℕ
  pub line : Bytes
  pub there : LineAt lim h start line
  pub read : read_record v line ≡ ok r
  pub shows : Shows lim.counted h v line entry r
  pub tells : Tells lim.counted h v entry r

-- entry n of the entries is of a kind without an ID, and shows these bytes
pub record ShownPlain (h : Bytes) (es : List Entry) (n kind : ℕ) (x : Bytes) : Type 0 where
  pub entry : Entry
  pub is : nth es n ≡ Some entry
  pub shows : ShowsPlain h kind x entry

-- these are the entries of the first k lines, in order, each line taken in the state that those before it leave
abbrev pub LinesTaken : Limits → Option Version → ℕ → ℕ → State → List Bytes → List Entry → Type 0
LinesTaken lim imposed zero start s ps es = es ≡ []
LinesTaken lim imposed (suc k) start s [] es = ⊥
LinesTaken lim imposed (suc k) start s (p ∷ ps) es =
    (q : State × List Entry) × (fs : List Entry) × (step lim imposed start s (line_of p) ≡ ok q) × (es ≡ q.1 ++ fs)
    × LinesTaken lim imposed k (start + length p) q.0 ps fs

-- every line was taken; or the line after the first k was refused or had no room
pub data Keeps (lim : Limits) (imposed : Option Version) (n start : ℕ) (s : State) (ps : List Bytes) (r : Reading) : Type 0 where
  all_taken : r.line ≡ n + length ps → LinesTaken lim imposed (length ps) start s ps r.entries → Keeps lim imposed n start s ps r
  stopped : (k : ℕ) → r.line ≡ suc (n + k) → LinesTaken lim imposed k start s ps r.entries → Keeps lim imposed n start s ps r

-- Document 02, §12: lines that may change places

-- the key of a record line: what stands after its `##`, up to the first `=`
abbrev pub key_in : Bytes → Bytes
key_in l = before (is EQUALS) (drop 2 l)

-- the first key is typed; the second is; they are the same. Two different typed kinds, or one is typed and the other isn't
abbrev pub may_change_of : Bool → Bool → Bool → Bool
may_change_of true true equal = not equal
may_change_of true false equal = true
may_change_of false true equal = true
may_change_of false false equal = false

unfoldable pub may_change : Bytes → Bytes → Bool
may_change l m = may_change_of (is_typed (key_in l)) (is_typed (key_in m)) (same (key_in l) (key_in m))

-- pieces as one text
unfoldable pub joined : List Bytes → Bytes
joined [] = []
joined (p ∷ ps) = p ++ joined ps

-- h has two neighbouring lines that may change places, and h' has them exchanged, each with its own ending. Neither is the first line
-- or the last, which in an accepted header is the column line; so both end in LF
pub record Exchanged (h h' : Bytes) : Type 0 where
  pub first : Bytes
  pub above : List Bytes
  pub upper : Bytes
  pub lower : Bytes
  pub below : List Bytes
  pub last : Bytes
  pub was : pieces h ≡ first ∷ (above ++ upper ∷ lower ∷ (below ++ last ∷ []))
  pub becomes : h' ≡ joined (first ∷ (above ++ lower ∷ upper ∷ (below ++ last ∷ [])))
  pub may : may_change (line_of upper) (line_of lower) ≡ true

-- one such exchange after another, or none
pub data Moved (h : Bytes) : Bytes → Type 0 where
  unmoved : Moved h h
  moved : {g h' : Bytes} → Moved h g → Exchanged g h' → Moved h h'

-- beside a reading r that was accepted with these records: r' was accepted too, with the same version, columns, places, number of entries and meaning
pub record SameMeaning (v : Version) (rs : List Record) (c : Columns) (r r' : Reading) : Type 0 where
  pub records : List Record
  pub accepted : Accepted v records c r'
  pub line : r'.line ≡ r.line
  pub start : r'.start ≡ r.start
  pub count : length r'.entries ≡ length r.entries
  pub meaning : header_meaning v records c ≡ header_meaning v rs c
