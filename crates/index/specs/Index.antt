-- Document 02, §7: an index beside the table, how it is built, and how an ID is found in it. Assumes nothing.
use Rattle.std.specs.Prelude.{ℕ, zero, suc, ◌+◌, ◌-◌, ◌%◌, ◌^◌, ◌≡◌, Bool, true, false, ◌&&◌, List, [], ◌∷◌, ◌++◌, eqb, leb, ltb, length, take, drop, replicate, Option, None, Some, Result, Ok, Err, ⊤}
use Rattle.values.specs.Bytes.{Bytes, same}
use Rattle.values.specs.Hash.{hash_of}
use Rattle.rules.specs.Entry.{Entry}
use Rattle.rules.specs.Shown.{id_meaning}
use Rattle.entries.specs.declared.form.Form.{Form}
use Rattle.entries.specs.Tables.{room, entry_in, entry_at}
use Rattle.index.specs.declared.find.Search.{Search}
use Rattle.index.specs.declared.build.BuildRefusal.{BuildRefusal}
use Rattle.index.specs.declared.build.BuildRefusal.TheVariants.{NotWellFormed, TooFewPlaces}
use Rattle.index.specs.declared.build.BuildAnswer.{BuildAnswer}

-- an index covers kinds 2 to 6
abbrev pub is_indexed : ℕ → Bool
is_indexed kind = leb 2 kind && leb kind 6

-- of so many places, the one that is tried first
unfoldable pub first_place : ℕ → ℕ → Bytes → ℕ
first_place places kind id = hash_of kind id % places

-- the places in the order in which they are tried: from place p on, wrapping round
unfoldable pub in_turn : ℕ → List ℕ → List ℕ
in_turn p index = drop p index ++ take p index

-- Finding

-- entry n is well formed, and has this kind and this ID by meaning
abbrev pub has_name : Bytes → ℕ → Bytes → Option Entry → Bool
has_name h kind id None = false
has_name h kind id (Some e) = eqb e.kind kind && same (id_meaning h e) id

unfoldable pub is_named : Form → Bytes → List ℕ → ℕ → Bytes → ℕ → Bool
is_named form h t kind id n = has_name h kind id (entry_at form h t n)

abbrev pub searched : Option ℕ → ℕ → Search
searched f n = record { found = f; looked = n }

-- one place more was looked at before
abbrev pub past : Search → Search
past s = searched s.found (suc s.looked)

-- the walk over places in turn, up to a 0, a hit or the last untried one; a place holds 0 or an entry's number plus 1
unfoldable pub walk : (ℕ → Bool) → List ℕ → Search
walk hit [] = searched None 0
walk hit (w ∷ ws) = elim (eqb w 0) [
  | true ↦ searched None 1
  | false ↦ elim (hit (w - 1)) [ true ↦ searched (Some (w - 1)) 1 | false ↦ past (walk hit ws) ]
]

-- for another kind nothing is found and none is looked at; with no places too, since there the walk has none
unfoldable pub find_in : Form → Bytes → List ℕ → List ℕ → ℕ → Bytes → Search
find_in form h t index kind id = elim (is_indexed kind) [
  | true ↦ walk (is_named form h t kind id) (in_turn (first_place (length index) kind id) index)
  | false ↦ searched None 0
]

-- Building

-- the first open place holds w; where none is open all stay
unfoldable pub fill : ℕ → List ℕ → List ℕ
fill w [] = []
fill w (x ∷ xs) = elim (eqb x 0) [ true ↦ w ∷ xs | false ↦ x ∷ fill w xs ]

-- the same with the places tried from p on
unfoldable pub placed : ℕ → ℕ → List ℕ → List ℕ
placed p w index = in_turn (length index - p) (fill w (in_turn p index))

-- an entry in the index, as the word w
unfoldable pub entry_placed : Bytes → Entry → ℕ → List ℕ → List ℕ
entry_placed h e w index = placed (first_place (length index) e.kind (id_meaning h e)) w index

-- the entries of these numbers, one after the other
unfoldable pub all_placed : Form → Bytes → List ℕ → List ℕ → List ℕ → List ℕ
all_placed form h t [] index = index
all_placed form h t (n ∷ ns) index = all_placed form h t ns (entry_placed h (entry_in form t n) (n + 1) index)

-- an entry's number in front of those after it, if its kind is one that an index covers; none if it or one after it is not well formed
abbrev pub numbered : ℕ → Option Entry → Option (List ℕ) → Option (List ℕ)
numbered n None ns = None
numbered n (Some e) None = None
numbered n (Some e) (Some ns) = Some (elim (is_indexed e.kind) [ true ↦ n ∷ ns | false ↦ ns ])

-- of so many entries from number n on
unfoldable pub indexed_from : Form → Bytes → List ℕ → ℕ → ℕ → Option (List ℕ)
indexed_from form h t n zero = Some []
indexed_from form h t n (suc more) = numbered n (entry_at form h t n) (indexed_from form h t (n + 1) more)

-- of all entries of a table; none is refusal 29
abbrev pub indexed_in : Form → Bytes → List ℕ → Option (List ℕ)
indexed_in form h t = indexed_from form h t 0 (room form t)

-- a number plus 1 has 32 bits
unfoldable pub all_fit : List ℕ → Bool
all_fit [] = true
all_fit (n ∷ ns) = ltb (n + 1) (2 ^ 32) && all_fit ns

-- there are places enough, and each can hold what is due
abbrev pub enough : ℕ → List ℕ → Bool
enough places ns = leb (length ns) places && all_fit ns

-- document 02's number
abbrev pub build_number : Result ⊤ BuildRefusal → ℕ
build_number (Ok tt) = 0
build_number (Err NotWellFormed) = 29
build_number (Err TooFewPlaces) = 33

abbrev pub answer_of : Result ⊤ BuildRefusal → ℕ → BuildAnswer
answer_of outcome n = record { outcome = outcome; placed = n }

-- 29, then 33
abbrev pub build_answer : ℕ → Option (List ℕ) → BuildAnswer
build_answer places None = answer_of (Err NotWellFormed) 0
build_answer places (Some ns) = elim (enough places ns) [ true ↦ answer_of (Ok tt) (length ns) | false ↦ answer_of (Err TooFewPlaces) 0 ]

-- the index after the call: cleared, and the entries placed in table order
abbrev pub index_by : Form → Bytes → List ℕ → List ℕ → Option (List ℕ) → List ℕ
index_by form h t index None = index
index_by form h t index (Some ns) = elim (enough (length index) ns) [ true ↦ all_placed form h t ns (replicate (length index) 0) | false ↦ index ]

abbrev pub built_index : Form → Bytes → List ℕ → List ℕ → List ℕ
built_index form h t index = index_by form h t index (indexed_in form h t)

-- What the theorems are stated with

-- the first of so many entries from number n on that is a hit
unfoldable pub first_from : (ℕ → Bool) → ℕ → ℕ → Option ℕ
first_from hit n zero = None
first_from hit n (suc more) = elim (hit n) [ true ↦ Some n | false ↦ first_from hit (n + 1) more ]

-- the first entry of a table with this kind and this ID
abbrev pub first_named : Form → Bytes → List ℕ → ℕ → Bytes → Option ℕ
first_named form h t kind id = first_from (is_named form h t kind id) 0 (room form t)

-- How the code comes to it

-- what is left of "well formed" where the kind is one that an index covers
abbrev pub is_inside : ℕ → Entry → Bool
is_inside size e = eqb e.tag 0 && (leb (e.start + e.length) size && leb (e.offset + e.id_length) e.length)

-- the place after this one
abbrev pub next_place : ℕ → ℕ → ℕ
next_place places at = elim (eqb (at + 1) places) [ true ↦ 0 | false ↦ at + 1 ]

abbrev pub TallyIs : Option (List ℕ) → Option (ℕ × ℕ) → Type 0
TallyIs o (Some (n, last)) = (ns : List ℕ) × (o ≡ Some ns) × (n ≡ length ns) × (all_fit ns ≡ ltb last (2 ^ 32))
TallyIs o None = o ≡ None

-- the entries to place were counted
pub record Tallies (o : Option (List ℕ)) (r : Option (ℕ × ℕ)) : Type 0 where
  pub is : TallyIs o r

-- and placed, where all can be
pub record PlacesAll (form : Form) (h : Bytes) (t index index' : List ℕ) : Type 0 where
  pub is : (ns : List ℕ) → indexed_in form h t ≡ Some ns → all_fit ns ≡ true → index' ≡ all_placed form h t ns index
