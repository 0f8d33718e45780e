-- Bits that tell of lines what they are beside the lines before them. Assumes nothing.
use Rattle.std.specs.Prelude.{ℕ, ◌+◌, ◌-◌, ◌*◌, ◌/◌, ◌%◌, ◌<◌, ◌≡◌, Bool, true, false, not, ◌&&◌, ◌||◌, List, eqb, ltb, length, take, drop, Option, None, Some}
use Rattle.values.specs.Bytes.{Bytes}
use Rattle.values.specs.Bits.{bit_at}
use Rattle.entries.specs.declared.form.Form.{Form}
use Rattle.entries.specs.Tables.{room, entry_in}
use Rattle.dictionary.specs.Dictionary.{Line}
use Rattle.dictionary.specs.Lines.{holds, table_lines, lines_before, ordinal, entry_of_line, is_idx}
use Rattle.dictionary.specs.Slots.{is_named, is_numbered, line_at, class_of, id_hash, number_hash, id_slot, number_slot, HeldAt}
use Rattle.dictionary.specs.Places.{implied_clash, idx_named, taken_before}
use Rattle.dictionary.specs.declared.line.Dictionary.{Dictionary}
use Rattle.dictionary.specs.declared.slots.Class.{Class}
use Rattle.dictionary.specs.declared.numbering.Carried.{Carried}
use Rattle.dictionary.specs.declared.place.Asked.{Asked}
use Rattle.dictionary.specs.declared.place.Beside.{Beside}
use Rattle.dictionary.specs.declared.place.Beside.TheVariants.{New, Again, Clash}
use Rattle.dictionary.specs.declared.marking.Sought.{Sought}
use Rattle.dictionary.specs.declared.marking.Sought.TheVariants.{Ids, Numbers}

-- these bits were set, and no others
pub record Sets (ms ms' : List ℕ) (bits : ℕ → Bool) : Type 0 where
  pub size : length ms' ≡ length ms
  pub is : (j : ℕ) → j < 64 * length ms → bit_at ms' j ≡ (bit_at ms j || bits j)

-- the bit that tells of a line whose ID was met before: 0, or 1 where it clashes
abbrev pub met_bit : Bool → ℕ
met_bit true = 0
met_bit false = 1

-- m is the IDX of the line before; `bad`: the number clashes with an implied one
abbrev pub is_again : Bool → (ℕ → Bool) → Option ℕ → Option ℕ → Bool
is_again false bad i m = true
is_again true bad None m = false
is_again true bad (Some n) m = not (bad n) && is_idx n m

abbrev pub id_bit : Bool → (ℕ → Bool) → Option ℕ → Option (Option ℕ) → ℕ → Bool
id_bit indexed bad i None b = false
id_bit indexed bad i (Some m) b = eqb b (met_bit (is_again indexed bad i m))

-- bit 1 tells of a number that was met before, or is bad or missing
abbrev pub number_bit : (ℕ → Bool) → Option ℕ → (ℕ → Bool) → ℕ → Bool
number_bit bad None taken b = eqb b 1
number_bit bad (Some n) taken b = (taken n || bad n) && eqb b 1

abbrev pub asked_of : Form → Dictionary → Carried → Asked
asked_of form d x = record { form = form; dictionary = d; indexed = x.given; lines = x.lines }

-- the IDX of the first line before entry k that has its ID
abbrev pub named_before : Asked → Bytes → List ℕ → ℕ → Option (Option ℕ)
named_before a h t k = idx_named (line_at a.form h t k).id (lines_before a.dictionary a.form h t k)

abbrev pub bad_at : Asked → Bytes → List ℕ → ℕ → ℕ → Bool
bad_at a h t k n = implied_clash a.dictionary (line_at a.form h t k).id n

-- bit b of entry k
abbrev pub bit_for : Sought → Asked → Bytes → List ℕ → ℕ → ℕ → Bool
bit_for Ids a h t k b = id_bit a.indexed (bad_at a h t k) (line_at a.form h t k).idx (named_before a h t k) b
bit_for Numbers a h t k b = number_bit (bad_at a h t k) (line_at a.form h t k).idx (taken_before a.dictionary a.form h t k) b

-- the class of a line
abbrev pub number_class : ℕ → Option ℕ → ℕ
number_class n None = class_of n 0
number_class n (Some m) = class_of n (number_hash m)

abbrev pub class_for : Sought → ℕ → Line → ℕ
class_for Ids n l = class_of n (id_hash l.id)
class_for Numbers n l = number_class n l.idx

abbrev pub in_class : Sought → Asked → Bytes → List ℕ → Class → ℕ → Bool
in_class s a h t c k = eqb (class_for s c.of (line_at a.form h t k)) c.at

-- Bit j tells of line j / 2. What is set for line n if its ID was looked for

unfoldable pub met_bits : Bool → (ℕ → Bool) → Option ℕ → Option (Option ℕ) → ℕ → ℕ → Bool
met_bits indexed bad i before n j = eqb (j / 2) n && id_bit indexed bad i before (j % 2)

abbrev pub line_number : Asked → Bytes → List ℕ → ℕ → ℕ
line_number a h t k = ordinal a.dictionary a.form h t k

-- for the line of entry k, if it is in the class
unfoldable pub line_bits : Sought → Asked → Bytes → List ℕ → Class → ℕ → ℕ → Bool
line_bits s a h t c k j = eqb (j / 2) (line_number a h t k) && (in_class s a h t c k && bit_for s a h t k (j % 2))

abbrev pub is_line : Asked → List ℕ → ℕ → Bool
is_line a t k = holds a.dictionary (entry_in a.form t k).kind

-- the entry of line n
abbrev pub told_of : Asked → Bytes → List ℕ → ℕ → ℕ
told_of a h t n = entry_of_line (table_lines a.dictionary a.form h t) n

-- for the lines before entry k that are
unfoldable pub class_bits : Sought → Asked → Bytes → List ℕ → Class → ℕ → ℕ → Bool
class_bits s a h t c k j = ltb (j / 2) (line_number a h t k) && (in_class s a h t c (told_of a h t (j / 2)) && bit_for s a h t (told_of a h t (j / 2)) (j % 2))

-- for the lines of the first classes of so many
unfoldable pub sought_bits : Sought → Asked → Bytes → List ℕ → ℕ → ℕ → ℕ → Bool
sought_bits s a h t of at j = ltb (j / 2) (line_number a h t (room a.form t)) && (ltb (class_for s of (line_at a.form h t (told_of a h t (j / 2)))) at && bit_for s a h t (told_of a h t (j / 2)) (j % 2))

-- for all
abbrev pub told_bit : Asked → Bytes → List ℕ → ℕ → ℕ → Bool
told_bit a h t k b = bit_for Ids a h t k b || (a.indexed && bit_for Numbers a h t k b)

unfoldable pub all_bits : Asked → Bytes → List ℕ → ℕ → Bool
all_bits a h t j = ltb (j / 2) (line_number a h t (room a.form t)) && told_bit a h t (told_of a h t (j / 2)) (j % 2)

-- the bits of this dictionary's lines are set
pub record Tells (a : Asked) (h : Bytes) (t ms : List ℕ) : Type 0 where
  pub is : (k b : ℕ) → k < room a.form t → is_line a t k ≡ true → b < 2 → 2 * line_number a h t k + b < 64 * length ms → bit_at ms (2 * line_number a h t k + b) ≡ told_bit a h t k b

-- the words from word n on, as they are lent
abbrev pub behind : ℕ → List ℕ → List ℕ
behind n ms = take (length ms - n) (drop n ms)

-- What a line is beside those before it

abbrev pub beside_met : Bool → Beside
beside_met true = Again
beside_met false = Clash

abbrev pub beside_new : Bool → Beside
beside_new true = Clash
beside_new false = New

abbrev pub beside_by : Bool → (ℕ → Bool) → Option ℕ → Option (Option ℕ) → (ℕ → Bool) → Beside
beside_by indexed bad i (Some m) taken = beside_met (is_again indexed bad i m)
beside_by false bad i None taken = New
beside_by true bad None None taken = Clash
beside_by true bad (Some n) None taken = beside_new (taken n || bad n)

abbrev pub beside_at : Asked → Bytes → List ℕ → ℕ → Beside
beside_at a h t k = beside_by a.indexed (bad_at a h t k) (line_at a.form h t k).idx (named_before a h t k) (taken_before a.dictionary a.form h t k)

-- Slots for what is sought

pub record HeldFor (s : Sought) (c : Class) (a : Asked) (h : Bytes) (t : List ℕ) (k : ℕ) (slots : List ℕ) : Type 0 where
  pub ids : s ≡ Ids → HeldAt is_named id_slot id_hash c a.dictionary a.form h t k slots
  pub numbers : s ≡ Numbers → HeldAt is_numbered number_slot number_hash c a.dictionary a.form h t k slots
