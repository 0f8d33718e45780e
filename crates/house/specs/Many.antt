-- The other keys written one after the other: which entries are written, and how far. Assumes nothing.
use Rattle.std.specs.Prelude.{ℕ, ◌+◌, ◌≤◌, ◌<◌, ◌≡◌, true, false, ◌||◌, List, [], ◌++◌, take, drop}
use Rattle.values.specs.Bytes.{Bytes}
use Rattle.rules.specs.Version.{Version}
use Rattle.entries.specs.declared.form.Form.{Form}
use Rattle.entries.specs.Tables.{room, entry_in, entries_in}
use Rattle.entries.specs.Notes.{bare}
use Rattle.house.specs.declared.progress.Progress.{Progress}
use Rattle.house.specs.Writes.{WroteLines}
use Rattle.house.specs.Keys.{AllListed, is_under, is_other_record, prefix_in, picked, seen_under, other_lines, PutsOthers}
use Rattle.house.specs.Chains.{link_at, is_written, slot_at, Linked}

-- all entries under the prefix after number `first` are found from there by links
pub record Ways (form : Form) (h : Bytes) (t : List ℕ) (prefix : Bytes) (first : ℕ) : Type 0 where
  pub linked : Linked form h t
  pub own : slot_at form h t linked.slots first < linked.slots
  pub caught : (m : ℕ) → first < m → m < room form t → is_under h prefix (entry_in form t m) ≡ true → slot_at form h t linked.slots m ≡ slot_at form h t linked.slots first

-- the lines under a prefix from number `first` on are written, and so are the entries; the links stay
pub record PutsAll (form : Form) (v : Version) (h : Bytes) (t : List ℕ) (prefix : Bytes) (first : ℕ) (given old : Bytes) (s r : Progress) (new : Bytes) (t' : List ℕ) : Type 0 where
  pub same : bare t' ≡ bare t
  pub links : (m : ℕ) → link_at form t' m ≡ link_at form t m
  pub lines : AllListed s.formed v h (entries_in form t) → Ways form h t prefix first → WroteLines given old s (picked v h prefix (drop first (entries_in form t))) r new
  pub written : Ways form h t prefix first → (m : ℕ) → first ≤ m → m < room form t → is_written form t' m ≡ (is_written form t m || is_under h prefix (entry_in form t m))

-- an entry from number k on is written if one before number k has its key
pub record Done (form : Form) (h : Bytes) (t d : List ℕ) (k : ℕ) : Type 0 where
  pub is : (m : ℕ) → k ≤ m → m < room form t → is_other_record (entry_in form t m) ≡ true → is_written form d m ≡ seen_under h (prefix_in h (entry_in form t m)) (take k (entries_in form t))

-- the lines of the keys that appear before number k are written; d is the table t with the notes of then
pub record Stage (form : Form) (v : Version) (h : Bytes) (t : List ℕ) (given out : Bytes) (b : Progress) (new : Bytes) (s : Progress) (d : List ℕ) (k : ℕ) : Type 0 where
  pub listed : AllListed b.formed v h (entries_in form t)
  pub same : bare d ≡ bare t
  pub linked : Linked form h d
  pub marked : Done form h t d k
  pub ls : List Bytes
  pub lines : other_lines v h (entries_in form t) [] (entries_in form t) ≡ ls ++ other_lines v h (entries_in form t) (take k (entries_in form t)) (drop k (entries_in form t))
  pub wrote : WroteLines given out b ls s new

-- the writing goes on past number k
pub record PutsNew (form : Form) (v : Version) (h : Bytes) (d : List ℕ) (k : ℕ) (given old : Bytes) (s r : Progress) (new : Bytes) (d' : List ℕ) : Type 0 where
  pub same : bare d' ≡ bare d
  pub is : k < room form d → (t : List ℕ) (out : Bytes) (b : Progress) → Stage form v h t given out b old s d k → Stage form v h t given out b new r d' (k + 1)

pub record PutsEach (form : Form) (v : Version) (h : Bytes) (t : List ℕ) (given old : Bytes) (s r : Progress) (new : Bytes) (t' : List ℕ) : Type 0 where
  pub same : bare t' ≡ bare t
  pub is : Linked form h t → ((m : ℕ) → is_written form t m ≡ false) → PutsOthers v h (entries_in form t) given old s r new
