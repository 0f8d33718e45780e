-- A lent table: so many words for each entry, the words left over are never used. Assumes nothing.
use Rattle.std.specs.Prelude.{ℕ, zero, suc, ◌+◌, ◌*◌, ◌/◌, ◌^◌, ◌≤◌, ◌<◌, ◌≡◌, Bool, true, false, ◌&&◌, List, [], ◌∷◌, ◌++◌, ltb, length, take, drop, Option, None, Some}
use Rattle.std.proofs.lemmas.List.Edits.{sets}
use Rattle.values.specs.Bytes.{Bytes}
use Rattle.rules.specs.Version.{Version}
use Rattle.rules.specs.Entry.{Entry}
use Rattle.rules.specs.Shown.{Part, well_formed, entry_part, id_part, entry_field_part, entry_key_part}
use Rattle.entries.specs.declared.form.Form.{Form}
use Rattle.entries.specs.declared.form.Form.TheVariants.{First}
use Rattle.entries.specs.Values.{limits_by}
use Rattle.entries.specs.Words.{word_count, words_of, unpacked, is_clear}

-- how many entries a table has room for
unfoldable pub room : Form → List ℕ → ℕ
room form t = length t / word_count form

-- the words of entries, in order
unfoldable pub words : Form → List Entry → List ℕ
words form [] = []
words form (e ∷ es) = words_of form e ++ words form es

-- the table with these entries from number n on
unfoldable pub stored : Form → List ℕ → ℕ → List Entry → List ℕ
stored form t n es = sets t (word_count form * n) (words form es)

-- with one entry, if there is room for it
unfoldable pub put : Form → List ℕ → ℕ → Entry → List ℕ
put form t n e = elim (ltb n (room form t)) [ true ↦ stored form t n (e ∷ []) | false ↦ t ]

-- an entry that was stored has a number below that of any word
pub record NextFits (n : ℕ) (r : Bool) : Type 0 where
  pub is : r ≡ true → n + 1 < 2 ^ 64

-- with entries one after the other from number n on, as far as there is room
unfoldable pub put_all : Form → List ℕ → ℕ → List Entry → List ℕ
put_all form t n [] = t
put_all form t n (e ∷ es) = elim (ltb n (room form t)) [ true ↦ put_all form (stored form t n (e ∷ [])) (n + 1) es | false ↦ t ]

-- the table's first n entries
unfoldable pub first_entries : Form → List ℕ → ℕ → List ℕ
first_entries form t n = take (word_count form * n) t

-- the words of entry n; none past the table
unfoldable pub words_at : Form → List ℕ → ℕ → List ℕ
words_at form t n = elim (ltb n (room form t)) [ true ↦ take (word_count form) (drop (word_count form * n) t) | false ↦ [] ]

-- entry n, well formed or not; past the table one of zeros
unfoldable pub entry_in : Form → List ℕ → ℕ → Entry
entry_in form t n = unpacked form (words_at form t n)

-- so many entries of a table, from number n on
unfoldable pub entries_from : Form → List ℕ → ℕ → ℕ → List Entry
entries_from form t n zero = []
entries_from form t n (suc k) = entry_in form t n ∷ entries_from form t (n + 1) k

-- all of them
unfoldable pub entries_in : Form → List ℕ → List Entry
entries_in form t = entries_from form t 0 (room form t)

-- entry n lies in the table, and the bits of its words that no number has are 0
unfoldable pub words_clear : Form → List ℕ → ℕ → Bool
words_clear form t n = ltb n (room form t) && is_clear form (words_at form t n)

-- entry n, if that holds and it is well formed in this header
unfoldable pub entry_at : Form → Bytes → List ℕ → ℕ → Option Entry
entry_at form h t n = elim (words_clear form t n && well_formed (length h) (entry_in form t n)) [ true ↦ Some (entry_in form t n) | false ↦ None ]

abbrev pub is_found : Option Entry → Bool
is_found None = false
is_found (Some e) = true

-- so many entries from number n on are well formed
unfoldable pub all_formed : Form → Bytes → List ℕ → ℕ → ℕ → Bool
all_formed form h t n zero = true
all_formed form h t n (suc k) = is_found (entry_at form h t n) && all_formed form h t (n + 1) k

-- what the code found in one look at several entries: those of the first form from one number up to another are well formed, or nothing
pub record ArePlain (size : ℕ) (t : List ℕ) (from to : ℕ) (r : Bool) : Type 0 where
  pub is : r ≡ true → (n : ℕ) → from ≤ n → n < to → words_clear First t n && well_formed size (entry_in First t n) ≡ true

-- The calls on an entry number

abbrev pub shown_entry : Form → Bytes → List ℕ → ℕ → Option Part
shown_entry form h t n = entry_part (entry_at form h t n)

abbrev pub shown_id : Form → Bytes → List ℕ → ℕ → Option Part
shown_id form h t n = id_part (entry_at form h t n)

abbrev pub shown_field : Form → Bytes → List ℕ → ℕ → Version → ℕ → Option Part
shown_field form h t n v i = entry_field_part (limits_by form).counted h v i (entry_at form h t n)

abbrev pub shown_key : Form → Bytes → List ℕ → ℕ → Option (Part × ℕ)
shown_key form h t n = entry_key_part (limits_by form).counted (entry_at form h t n)
