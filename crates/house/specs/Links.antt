-- The entries of a key that is not typed, found by heads and links. Assumes nothing.
use Rattle.std.specs.Prelude.{ℕ, zero, suc, ◌+◌, ◌%◌, ◌≤◌, ◌<◌, ◌≡◌, Bool, true, false, List, [], ◌++◌, length, get_or, take, drop}
use Rattle.values.specs.Bytes.{Bytes, is, any}
use Rattle.values.specs.Hash.{wide_basis, wide_step, wide_from}
use Rattle.rules.specs.Version.{Version}
use Rattle.rules.specs.Known.{is_typed}
use Rattle.rules.specs.Entry.{Entry}
use Rattle.entries.specs.declared.form.Form.{Form}
use Rattle.entries.specs.Tables.{room, entry_in, entries_in}
use Rattle.ids.specs.Clashes.{prefix_of}
use Rattle.house.specs.declared.progress.Progress.{Progress}
use Rattle.house.specs.Writes.{WroteLines}
use Rattle.house.specs.Keys.{is_under, AllListed, is_other_record, prefix_in, picked, seen_under, is_first, lines_if, other_lines}

-- the slot of a key among n
unfoldable pub slot_of : ℕ → Bytes → ℕ
slot_of zero prefix = 0
slot_of (suc n) prefix = wide_step (wide_from wide_basis prefix) 0 % suc n

-- that of an entry's key; past them if it is typed
unfoldable pub slot_in : Bytes → ℕ → Entry → ℕ
slot_in h n e = elim (is_other_record e) [ true ↦ slot_of n (prefix_in h e) | false ↦ n ]

-- where the link of number k is kept, among n
unfoldable pub cell_of : ℕ → ℕ → ℕ
cell_of zero k = 0
cell_of (suc n) k = k % suc n

-- the link of number k
abbrev pub link_of : List ℕ → ℕ → ℕ
link_of links k = get_or links (cell_of (length links) k) 0

-- entry number k became a head, and r is no larger than the head that was there
pub record TakesPlace (h : Bytes) (e : Entry) (k : ℕ) (heads : List ℕ) (r : ℕ) (heads' : List ℕ) : Type 0 where
  pub size : length heads' ≡ length heads
  pub link : slot_in h (length heads) e < length heads → r ≤ get_or heads (slot_in h (length heads) e) 0
  pub kept : (s m : ℕ) → get_or heads s 0 ≤ m → k ≤ m → get_or heads' s 0 ≤ m
  pub own : slot_in h (length heads) e < length heads → get_or heads' (slot_in h (length heads) e) 0 ≤ k

-- no link is larger than before, nor that of number k than `next`
pub record Lowers (links : List ℕ) (k next : ℕ) (links' : List ℕ) : Type 0 where
  pub size : length links' ≡ length links
  pub kept : (i : ℕ) → link_of links' i ≤ link_of links i
  pub own : link_of links' k ≤ next

-- of the entries from number k on, none that has a slot stands before the head of it, nor between one of its slot and the place that is linked to this
pub record Links (form : Form) (h : Bytes) (t heads links : List ℕ) (k : ℕ) : Type 0 where
  pub first : (m : ℕ) → k ≤ m → m < room form t → slot_in h (length heads) (entry_in form t m) < length heads → get_or heads (slot_in h (length heads) (entry_in form t m)) 0 ≤ m
  pub next : (j m : ℕ) → k ≤ j → j < m → m < room form t → slot_in h (length heads) (entry_in form t m) < length heads
      → slot_in h (length heads) (entry_in form t m) ≡ slot_in h (length heads) (entry_in form t j) → link_of links (j + 1) ≤ m

-- no place that the link leads to, or a later one, is before r
pub record NextIs (slot : ℕ) (heads links : List ℕ) (k r : ℕ) : Type 0 where
  pub back : k ≤ r
  pub is : (m : ℕ) → k ≤ m → (slot < length heads → link_of links k ≤ m) → r ≤ m

-- nor is one before r, if the entry is not of this slot
pub record PassesOther (h : Bytes) (e : Entry) (slot : ℕ) (heads links : List ℕ) (k r : ℕ) : Type 0 where
  pub back : k ≤ r
  pub is : (m : ℕ) → k ≤ m → (slot_in h (length heads) e ≡ slot → slot < length heads → link_of links k ≤ m) → r ≤ m

-- the prefix of a key that is not typed
pub record OtherKey (prefix : Bytes) : Type 0 where
  pub key : Bytes
  pub plain : any (is 61) key ≡ false
  pub untyped : is_typed key ≡ false
  pub is : prefix ≡ prefix_of key

-- such a prefix, with its slot, where all entries that have slots are linked
pub record Linked (form : Form) (v : Version) (f : Bool) (h : Bytes) (t prefix : Bytes) (slot : ℕ) (heads links : List ℕ) : Type 0 where
  pub listed : AllListed f v h (entries_in form t)
  pub chain : Links form h t heads links 0
  pub key : OtherKey prefix
  pub place : slot ≡ slot_of (length heads) prefix

pub record SeesKey (form : Form) (h : Bytes) (t prefix : Bytes) (slot : ℕ) (heads links : List ℕ) (end : ℕ) (r : Bool) : Type 0 where
  pub is : (f : Bool) (v : Version) → Linked form v f h t prefix slot heads links → end ≤ room form t → r ≡ seen_under h prefix (take end (entries_in form t))

pub record PutsLinked (form : Form) (v : Version) (h : Bytes) (t prefix : Bytes) (slot : ℕ) (heads links : List ℕ) (first : ℕ) (given old : Bytes) (s r : Progress) (new : Bytes) : Type 0 where
  pub is : Linked form v s.formed h t prefix slot heads links → WroteLines given old s (picked v h prefix (drop first (entries_in form t))) r new

-- the lines of an entry's key, if it is the first one of a key that is not typed, were written after others
pub record PutsFirst (form : Form) (v : Version) (h : Bytes) (t heads links : List ℕ) (k : ℕ) (given old : Bytes) (s r : Progress) (new : Bytes) : Type 0 where
  pub is : AllListed s.formed v h (entries_in form t) → Links form h t heads links 0 → k < room form t
      → (out : Bytes) (b : Progress) (ls : List Bytes) → WroteLines given out b ls s old
      → WroteLines given out b (ls ++ lines_if (is_first h (take k (entries_in form t)) (entry_in form t k)) (picked v h (prefix_in h (entry_in form t k)) (entries_in form t))) r new

-- the entries from number `start` on and before r are under the key
pub record SkipsUnder (form : Form) (h : Bytes) (t : List ℕ) (prefix : Bytes) (start r : ℕ) : Type 0 where
  pub back : start ≤ r
  pub within : start ≤ room form t → r ≤ room form t
  pub under : (m : ℕ) → start ≤ m → m < r → is_under h prefix (entry_in form t m) ≡ true

-- those after number k and before r are under its key, which is not typed
pub record SkipsSame (form : Form) (h : Bytes) (t : List ℕ) (k r : ℕ) : Type 0 where
  pub ahead : k < r
  pub within : k < room form t → r ≤ room form t
  pub under : (m : ℕ) → k < m → m < r → (is_other_record (entry_in form t k) ≡ true) × (is_under h (prefix_in h (entry_in form t k)) (entry_in form t m) ≡ true)

pub record PutsOthersBy (form : Form) (v : Version) (h : Bytes) (t heads links : List ℕ) (given old : Bytes) (s r : Progress) (new : Bytes) : Type 0 where
  pub is : AllListed s.formed v h (entries_in form t) → Links form h t heads links 0
      → WroteLines given old s (other_lines v h (entries_in form t) [] (entries_in form t)) r new
