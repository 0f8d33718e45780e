-- The entries of a key, found by links that stand as notes in the table. Assumes nothing.
use Rattle.std.specs.Prelude.{ℕ, ◌+◌, ◌-◌, ◌%◌, ◌^◌, ◌≤◌, ◌<◌, ◌≡◌, Bool, true, false, List, leb, ltb, length, get_or}
use Rattle.values.specs.Bytes.{Bytes}
use Rattle.entries.specs.declared.form.Form.{Form}
use Rattle.entries.specs.Tables.{room, entry_in}
use Rattle.entries.specs.Notes.{bare, note_at, noted}
use Rattle.house.specs.Links.{slot_in}

-- the note of an entry is the number of the next entry of its slot, and 2^23 more where its line is written

unfoldable pub link_at : Form → List ℕ → ℕ → ℕ
link_at form t m = note_at form t m % 2 ^ 23

unfoldable pub is_written : Form → List ℕ → ℕ → Bool
is_written form t m = leb (2 ^ 23) (note_at form t m)

unfoldable pub written_at : Form → List ℕ → ℕ → List ℕ
written_at form t m = noted form t m (link_at form t m + 2 ^ 23)

-- where the link of entry number k leads, if it leads on
unfoldable pub next_at : Form → List ℕ → ℕ → ℕ → ℕ
next_at form t k end = elim (ltb k (link_at form t k)) [ true ↦ link_at form t k | false ↦ end ]

-- the slot of entry number m among n; past them if its key is typed
abbrev pub slot_at : Form → Bytes → List ℕ → ℕ → ℕ → ℕ
slot_at form h t n m = slot_in h n (entry_in form t m)

-- r is the first number from k on whose slot is s; none before the end is, where r is not before it
pub record FirstFrom (slot : ℕ → ℕ) (end s k r : ℕ) : Type 0 where
  pub back : k ≤ r
  pub own : r < end → slot r ≡ s
  pub none : (m : ℕ) → k ≤ m → m < r → m < end → slot m ≡ s → ⊥

-- the link of each entry that has a slot is the next one of it
pub record Linked (form : Form) (h : Bytes) (t : List ℕ) : Type 0 where
  pub slots : ℕ
  pub some : 0 < slots
  pub next : (m : ℕ) → m < room form t → slot_at form h t slots m < slots → FirstFrom (slot_at form h t slots) (room form t) (slot_at form h t slots m) (m + 1) (link_at form t m)

-- of the entries from number k on, the link of each that is of one of n slots from number `from` on is the next one of its slot
pub record Nexts (slot link : ℕ → ℕ) (end from n k : ℕ) : Type 0 where
  pub is : (m : ℕ) → k ≤ m → m < end → from ≤ slot m → slot m < from + n → FirstFrom slot end (slot m) (m + 1) (link m)

-- and the first of each of these slots is its head
pub record LinkedFrom (slot link : ℕ → ℕ) (end from : ℕ) (heads : List ℕ) (k : ℕ) : Type 0 where
  pub small : (s : ℕ) → s < length heads → get_or heads s 0 < 2 ^ 23
  pub firsts : (s : ℕ) → s < length heads → FirstFrom slot end (from + s) k (get_or heads s 0)
  pub links : Nexts slot link end from (length heads) k

-- no slot has a head
pub record Headless (heads : List ℕ) : Type 0 where
  pub is : (s : ℕ) → s < length heads → get_or heads s 0 ≡ 2 ^ 23 - 1

-- the links of entries of other slots stay, and nothing is noted as written
pub record Relinks (form : Form) (slot : ℕ → ℕ) (from n : ℕ) (t t' : List ℕ) : Type 0 where
  pub same : bare t' ≡ bare t
  pub kept : (m : ℕ) → (from ≤ slot m → slot m < from + n → ⊥) → link_at form t' m ≡ link_at form t m
  pub fresh : (m : ℕ) → is_written form t m ≡ false → is_written form t' m ≡ false

-- entry number k was linked, if it is of one of these slots; t₀ is the table before any was
pub record LinksEntry (form : Form) (h : Bytes) (slots from k : ℕ) (heads t heads' t' : List ℕ) : Type 0 where
  pub is : (t₀ : List ℕ) → bare t ≡ bare t₀ → k < room form t₀ → LinkedFrom (slot_at form h t₀ slots) (link_at form t) (room form t₀) from heads (k + 1)
      → Relinks form (slot_at form h t₀ slots) from (length heads) t t' × LinkedFrom (slot_at form h t₀ slots) (link_at form t') (room form t₀) from heads' k

-- all entries of n slots from number `from` on were
pub record LinksRange (form : Form) (h : Bytes) (slots from n : ℕ) (t t' : List ℕ) : Type 0 where
  pub keeps : Relinks form (slot_at form h t slots) from n t t'
  pub links : Nexts (slot_at form h t slots) (link_at form t') (room form t) from n 0

-- all of the slots below number `from` were
pub record LinksBelow (form : Form) (h : Bytes) (slots from : ℕ) (t t' : List ℕ) : Type 0 where
  pub same : bare t' ≡ bare t
  pub links : Nexts (slot_at form h t' slots) (link_at form t') (room form t') 0 from 0
  pub fresh : (m : ℕ) → is_written form t m ≡ false → is_written form t' m ≡ false

-- all entries were linked, and none is written if none had a note
pub record LinksAll (form : Form) (h : Bytes) (t t' : List ℕ) : Type 0 where
  pub same : bare t' ≡ bare t
  pub linked : Linked form h t'
  pub fresh : bare t ≡ t → (m : ℕ) → is_written form t' m ≡ false
