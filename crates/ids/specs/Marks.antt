-- Marks of the entries kept so far, by which a scan of them may be left out. Assumes nothing.
use Rattle.std.specs.Prelude.{ℕ, ◌≤◌, ◌<◌, ◌≡◌, Bool, true, false, not, ◌&&◌, List, [], ◌∷◌, eqb, ltb, Option, Some, None}
use Rattle.values.specs.Bytes.{Bytes}
use Rattle.values.specs.Marks.{is_met, meet}
use Rattle.rules.specs.Known.{other}
use Rattle.rules.specs.Entry.{Entry, map_kind, text_kind}
use Rattle.rules.specs.Shown.{id_in, id_meaning}
use Rattle.ids.specs.Names.{key_hash, under_hash, id_hash, other_sort}
use Rattle.entries.specs.declared.form.Form.{Form}
use Rattle.entries.specs.Tables.{entry_in}
use Rattle.ids.specs.Ahead.{hash_noted, quoted_noted, text_near, sort_noted}
use Rattle.ids.specs.Clashes.{key_seen, id_seen, clash_by}
use Rattle.ids.specs.declared.scan.Clash.{Clash}
use Rattle.ids.specs.declared.scan.Clash.TheVariants.{TypedId, Mixed, OtherId}

-- the ID of a kind that has one
unfoldable pub meet_id : Bytes → ℕ → Entry → List ℕ → List ℕ
meet_id h key e ms = elim (ltb 7 e.kind) [ true ↦ ms | false ↦ meet ms (id_hash key e.kind (id_meaning h e)) ]

-- the key of an other record
unfoldable pub meet_key : ℕ → ℕ → List ℕ → List ℕ
meet_key key kind ms = elim (ltb kind 7) [ true ↦ ms | false ↦ meet ms (under_hash key kind) ]

-- a typed kind's ID; an other map's ID, and its key; a text's key
unfoldable pub mark_under : Bytes → ℕ → Entry → List ℕ → List ℕ
mark_under h key e ms = elim (ltb e.kind 7) [
  | true ↦ meet ms (id_hash key e.kind (id_meaning h e))
  | false ↦ elim (eqb e.kind 7) [
    | true ↦ meet (meet ms (id_hash key e.kind (id_meaning h e))) (under_hash key e.kind)
    | false ↦ meet ms (under_hash key e.kind)
  ]
]

abbrev pub mark_entry : Bytes → Entry → List ℕ → List ℕ
mark_entry h e ms = mark_under h (key_hash h e) e ms

-- what is marked of an entry that a new line may clash with
pub record Marked (h : Bytes) (ms : List ℕ) (e : Entry) : Type 0 where
  pub id : 2 ≤ e.kind → e.kind ≤ 7 → is_met ms (id_hash (key_hash h e) e.kind (id_meaning h e)) ≡ true
  pub key : 7 ≤ e.kind → e.kind ≤ 8 → is_met ms (under_hash (key_hash h e) e.kind) ≡ true

-- whether a line ahead may have the ID of an entry, or may not stand beside it under its key, by the notes

abbrev pub id_noted : Bytes → List ℕ → Entry → Bool
id_noted h ns e = text_near ns e.quoted (id_in h e) && hash_noted ns (id_hash (key_hash h e) e.kind (id_meaning h e))

abbrev pub key_noted : Bytes → List ℕ → Entry → Bool
key_noted h ns e = sort_noted ns e.kind && hash_noted ns (under_hash (key_hash h e) e.kind)

-- of its names those that were noted
pub record MarkedFor (h : Bytes) (ns ms : List ℕ) (e : Entry) : Type 0 where
  pub id : 2 ≤ e.kind → e.kind ≤ 7 → id_noted h ns e ≡ true → is_met ms (id_hash (key_hash h e) e.kind (id_meaning h e)) ≡ true
  pub key : 7 ≤ e.kind → e.kind ≤ 8 → key_noted h ns e ≡ true → is_met ms (under_hash (key_hash h e) e.kind) ≡ true

unfoldable pub mark_id : Bytes → List ℕ → Entry → List ℕ → List ℕ
mark_id h ns e ms = elim (id_noted h ns e) [ true ↦ meet ms (id_hash (key_hash h e) e.kind (id_meaning h e)) | false ↦ ms ]

unfoldable pub mark_key : Bytes → List ℕ → Entry → List ℕ → List ℕ
mark_key h ns e ms = elim (key_noted h ns e) [ true ↦ meet ms (under_hash (key_hash h e) e.kind) | false ↦ ms ]

unfoldable pub mark_names : Bytes → List ℕ → Entry → List ℕ → List ℕ
mark_names h ns e ms = elim (ltb e.kind 7) [
  | true ↦ mark_id h ns e ms
  | false ↦ elim (eqb e.kind 7) [ true ↦ mark_id h ns e (mark_key h ns e ms) | false ↦ mark_key h ns e ms ]
]

unfoldable pub mark_noted : Bytes → List ℕ → List Entry → List ℕ → List ℕ
mark_noted h ns [] ms = ms
mark_noted h ns (e ∷ es) ms = mark_noted h ns es (mark_names h ns e ms)

-- Entries that need not be marked, by cheap tests that answered no

pub record IdSpared (h : Bytes) (ns : List ℕ) (e : Entry) (r : Bool) : Type 0 where
  pub is : quoted_noted ns ≡ false → r ≡ false → text_near ns e.quoted (id_in h e) ≡ false

pub record KeySpared (ns : List ℕ) (e : Entry) (r : Bool) : Type 0 where
  pub is : r ≡ false → 7 ≤ e.kind → sort_noted ns e.kind ≡ false

pub record Spared (h : Bytes) (ns : List ℕ) (e : Entry) (r : Bool) : Type 0 where
  pub id : quoted_noted ns ≡ false → r ≡ false → e.kind ≤ 7 → text_near ns e.quoted (id_in h e) ≡ false
  pub key : r ≡ false → 7 ≤ e.kind → sort_noted ns e.kind ≡ false

-- the entries from number k up to r
pub record NextNear (h : Bytes) (form : Form) (t ns : List ℕ) (k r : ℕ) : Type 0 where
  pub later : k ≤ r
  pub spared : (n : ℕ) → k ≤ n → n < r → (ms : List ℕ) → mark_names h ns (entry_in form t n) ms ≡ ms

-- What is found of a new line: nothing is looked for where the marks tell that it isn't there

unfoldable pub key_found : Bytes → List Entry → List ℕ → Bytes → ℕ → ℕ → Bool
key_found h es ms prefix key kind = is_met ms (under_hash key kind) && key_seen h prefix kind es

unfoldable pub id_found : Bytes → List Entry → List ℕ → Bytes → ℕ → Entry → Bool
id_found h es ms prefix key e = is_met ms (id_hash key e.kind (id_meaning h e)) && id_seen h prefix e.kind (id_meaning h e) es

-- a text beside a map, a map beside a text
unfoldable pub mixed_found : Bytes → List Entry → List ℕ → Bytes → ℕ → Entry → Bool
mixed_found h es ms prefix key e = not (ltb e.kind 7) && key_found h es ms prefix key (other_sort e.kind)

unfoldable pub twice_found : Bytes → List Entry → List ℕ → Bytes → ℕ → Entry → Bool
twice_found h es ms prefix key e = not (ltb 7 e.kind) && id_found h es ms prefix key e

-- by whether the ID was seen, and the key with the other sort
unfoldable pub clash_of : ℕ → Bool → Bool → Option Clash
clash_of kind twice mixed = elim mixed [ true ↦ Some Mixed | false ↦ elim twice [ true ↦ elim (ltb kind 7) [ true ↦ Some TypedId | false ↦ Some OtherId ] | false ↦ None ] ]

abbrev pub clash_under : Bytes → List Entry → List ℕ → Bytes → ℕ → Entry → Option Clash
clash_under h es ms prefix key e = clash_by e.kind (id_found h es ms prefix key e) (key_found h es ms prefix key text_kind) (key_found h es ms prefix key (map_kind other))

abbrev pub clash_found : Bytes → List Entry → List ℕ → Bytes → Entry → Option Clash
clash_found h es ms prefix e = clash_under h es ms prefix (key_hash h e) e
