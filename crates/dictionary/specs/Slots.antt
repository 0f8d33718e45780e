-- Slots that tell in which line an ID, or a number, stands first. Assumes nothing.
use Rattle.std.specs.Prelude.{ℕ, ◌+◌, ◌-◌, ◌/◌, ◌%◌, ◌^◌, ◌<◌, ◌≤◌, ◌≡◌, Bool, true, false, List, [], ◌∷◌, eqb, ltb, length, get_or, Option, None, Some}
use Rattle.values.specs.Bytes.{Bytes, same}
use Rattle.values.specs.Hash.{wide_basis, wide_step, wide_from}
use Rattle.entries.specs.declared.entry.Entry.{Entry as CodeEntry}
use Rattle.entries.specs.declared.form.Form.{Form}
use Rattle.entries.specs.Tables.{room, entry_in}
use Rattle.entries.specs.Values.{entry_of}
use Rattle.dictionary.specs.Dictionary.{Line}
use Rattle.dictionary.specs.Lines.{holds, line_of_entry, lines_before, idx_at, is_idx}
use Rattle.dictionary.specs.declared.line.Dictionary.{Dictionary}
use Rattle.dictionary.specs.declared.slots.Class.{Class}
use Rattle.dictionary.specs.declared.slots.Looked.{Looked}
use Rattle.dictionary.specs.declared.slots.Looked.TheVariants.{Found, Open, Full}

-- the IDX of the first of these lines that passes a test
unfoldable pub idx_first : (Line → Bool) → List Line → Option (Option ℕ)
idx_first t [] = None
idx_first t (l ∷ ls) = elim (t l) [ true ↦ Some l.idx | false ↦ idx_first t ls ]

-- what is sought: an ID, or a number
abbrev pub is_named : Bytes → Line → Bool
is_named x l = same l.id x

abbrev pub is_numbered : ℕ → Line → Bool
is_numbered n l = is_idx n l.idx

-- of n slots the one of a hash
unfoldable pub slot_by : ℕ → ℕ → ℕ
slot_by n hash = elim (eqb n 0) [ true ↦ 0 | false ↦ hash % (n - n / 64) ]

-- of n classes the one of a hash
unfoldable pub class_of : ℕ → ℕ → ℕ
class_of n hash = elim (eqb n 0) [ true ↦ 0 | false ↦ hash / 2 ^ 32 % n ]

unfoldable pub id_hash : Bytes → ℕ
id_hash x = wide_step (wide_from wide_basis x) 0

unfoldable pub number_hash : ℕ → ℕ
number_hash m = wide_step (wide_step (wide_step m 0) 0) 0

unfoldable pub id_slot : ℕ → Bytes → ℕ
id_slot n x = slot_by n (id_hash x)

-- numbers below a sixteenth of the slots have their own
unfoldable pub number_slot : ℕ → ℕ → ℕ
number_slot n m = elim (ltb m (n / 16)) [ true ↦ m | false ↦ n / 16 + slot_by (n - n / 16) (number_hash m) ]

pub record AllOpen (slots : List ℕ) : Type 0 where
  pub is : (q : ℕ) → get_or slots q 0 ≡ 0

-- the line of entry m
abbrev pub line_at : Form → Bytes → List ℕ → ℕ → Line
line_at form h t m = line_of_entry h m (entry_in form t m)

-- In what follows w is sought: `test w` says of a line whether it is that, and `slot n w` is its own of n slots

-- no line in a slot from w's own up to p is the one
abbrev pub NoneIn : {K : Type 0} (test : K → Line → Bool) (slot : ℕ → K → ℕ) → Form → Bytes → List ℕ → List ℕ → K → ℕ → Type 0
NoneIn test slot form h t slots w p = (q m : ℕ) → slot (length slots) w ≤ q → q < p → get_or slots q 0 ≡ m + 1 → test w (line_at form h t m) ≡ false

-- and none of these slots is open
pub record Passed {K : Type 0} (test : K → Line → Bool) (slot : ℕ → K → ℕ) (form : Form) (h : Bytes) (t slots : List ℕ) (w : K) (p : ℕ) : Type 0 where
  pub from : slot (length slots) w ≤ p
  pub filled : (q : ℕ) → slot (length slots) w ≤ q → q < p → get_or slots q 0 ≡ 0 → ⊥
  pub others : NoneIn test slot form h t slots w p

abbrev pub LookedIs : {K : Type 0} (test : K → Line → Bool) (slot : ℕ → K → ℕ) → Form → Bytes → List ℕ → List ℕ → K → Looked → Type 0
LookedIs test slot form h t slots w (Found x) = (q : ℕ) × (m : ℕ) × (get_or slots q 0 ≡ m + 1) × (test w (line_at form h t m) ≡ true) × (idx_at h x ≡ (line_at form h t m).idx)
LookedIs test slot form h t slots w (Open p) = (p < length slots) × (get_or slots p 0 ≡ 0) × Passed test slot form h t slots w p
LookedIs test slot form h t slots w Full = (p : ℕ) × (length slots ≤ p) × Passed test slot form h t slots w p

pub record Looks {K : Type 0} (test : K → Line → Bool) (slot : ℕ → K → ℕ) (form : Form) (h : Bytes) (t slots : List ℕ) (w : K) (r : Looked) : Type 0 where
  pub is : LookedIs test slot form h t slots w r

-- a line in a slot is the first of these lines for whatever it is sought for; what is among these lines, and of a class, stands before any open slot from its own on
pub record Held {K : Type 0} (test : K → Line → Bool) (slot : ℕ → K → ℕ) (hash : K → ℕ) (c : Class) (form : Form) (h : Bytes) (t : List ℕ) (ls : List Line) (slots : List ℕ) : Type 0 where
  pub own : (q m : ℕ) → get_or slots q 0 ≡ m + 1 → (w : K) → test w (line_at form h t m) ≡ true → idx_first (test w) ls ≡ Some (line_at form h t m).idx
  pub behind : (w : K) → class_of c.of (hash w) ≡ c.at → (i : Option ℕ) → idx_first (test w) ls ≡ Some i → (p : ℕ) → slot (length slots) w ≤ p → p < length slots → get_or slots p 0 ≡ 0
      → NoneIn test slot form h t slots w p → ⊥

-- of the lines before entry k, as far as a slot has room for its number
pub record HeldAt {K : Type 0} (test : K → Line → Bool) (slot : ℕ → K → ℕ) (hash : K → ℕ) (c : Class) (d : Dictionary) (form : Form) (h : Bytes) (t : List ℕ) (k : ℕ) (slots : List ℕ) : Type 0 where
  pub is : k < 2 ^ 32 → Held test slot hash c form h t (lines_before d form h t k) slots

-- e is entry k, of this dictionary
pub record StandsAt (d : Dictionary) (form : Form) (t : List ℕ) (k : ℕ) (e : CodeEntry) : Type 0 where
  pub inside : k < room form t
  pub held : holds d e.kind ≡ true
  pub is : entry_of e ≡ entry_in form t k

-- entry k is, and its line is the one; what is sought is of the class
pub record Stands {K : Type 0} (test : K → Line → Bool) (d : Dictionary) (form : Form) (h : Bytes) (t : List ℕ) (k : ℕ) (w : K) : Type 0 where
  pub inside : k < room form t
  pub held : holds d (entry_in form t k).kind ≡ true
  pub is : test w (line_at form h t k) ≡ true
