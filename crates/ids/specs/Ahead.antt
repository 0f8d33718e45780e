-- Names that lines still to be read have, as notes: an entry whose names were not noted need not be marked. Assumes nothing.
use Rattle.std.specs.Prelude.{ℕ, ◌*◌, ◌^◌, ◌≤◌, ◌≡◌, Bool, true, false, ◌||◌, ◌&&◌, List, eqb, ltb, length}
use Rattle.values.specs.Bytes.{Bytes}
use Rattle.values.specs.Value.{meaning}
use Rattle.values.specs.Hash.{wide_step}
use Rattle.values.specs.Marks.{is_noted, note}
use Rattle.rules.specs.Entry.{Entry}
use Rattle.rules.specs.Shown.{id_in, id_meaning}
use Rattle.ids.specs.Names.{key_hash, under_hash, id_hash, other_sort, tail_hash}

-- A hash, by two bits

abbrev pub once : ℕ → ℕ
once hash = wide_step hash 0

abbrev pub twice : ℕ → ℕ
twice hash = wide_step (once hash) 0

unfoldable pub note_hash : List ℕ → ℕ → List ℕ
note_hash ns hash = note (note ns (once hash)) (twice hash)

unfoldable pub hash_noted : List ℕ → ℕ → Bool
hash_noted ns hash = is_noted ns (once hash) && is_noted ns (twice hash)

-- The last bytes of an ID

-- noted where an ID stands between quotes: its bytes may not be those that it means
abbrev pub quoted_note : ℕ
quoted_note = 2 ^ 32

unfoldable pub quoted_noted : List ℕ → Bool
quoted_noted ns = is_noted ns quoted_note

unfoldable pub note_text : Bool → Bytes → List ℕ → List ℕ
note_text q t ns = elim q [ true ↦ note ns quoted_note | false ↦ elim (ltb (length t) 8) [ true ↦ ns | false ↦ note ns (tail_hash t (length t)) ] ]

-- whether an ID ahead may mean what this one does: only the last bytes of a bare one of eight or more are looked at
unfoldable pub text_near : List ℕ → Bool → Bytes → Bool
text_near ns q t = q || (ltb (length t) 8 || (quoted_noted ns || is_noted ns (tail_hash t (length t))))

-- That a line goes with no record of this kind under its key

unfoldable pub note_sort : List ℕ → ℕ → List ℕ
note_sort ns kind = note ns (kind * 2 ^ 32)

unfoldable pub sort_noted : List ℕ → ℕ → Bool
sort_noted ns kind = is_noted ns (kind * 2 ^ 32)

-- The names of a line's entry

unfoldable pub note_id : Bytes → ℕ → Entry → List ℕ → List ℕ
note_id h key e ns = note_hash (note_text e.quoted (id_in h e) ns) (id_hash key e.kind (id_meaning h e))

unfoldable pub note_key : ℕ → ℕ → List ℕ → List ℕ
note_key key kind ns = note_hash (note_sort ns (other_sort kind)) (under_hash key (other_sort kind))

-- a typed kind's ID; an other map's ID, and its key; a text's key
unfoldable pub note_names : Bytes → Entry → List ℕ → List ℕ
note_names h e ns = elim (ltb e.kind 7) [
  | true ↦ note_id h (key_hash h e) e ns
  | false ↦ elim (eqb e.kind 7) [
    | true ↦ note_id h (key_hash h e) e (note_key (key_hash h e) e.kind ns)
    | false ↦ note_key (key_hash h e) e.kind ns
  ]
]

-- what was noted of an ID: whatever means the same is near
pub record IdNamed (h : Bytes) (ns : List ℕ) (e : Entry) : Type 0 where
  pub hash : hash_noted ns (id_hash (key_hash h e) e.kind (id_meaning h e)) ≡ true
  pub near : (q : Bool) (t : Bytes) → meaning q t ≡ id_meaning h e → text_near ns q t ≡ true

-- and of a key
pub record KeyNamed (h : Bytes) (ns : List ℕ) (e : Entry) : Type 0 where
  pub hash : hash_noted ns (under_hash (key_hash h e) (other_sort e.kind)) ≡ true
  pub sort : sort_noted ns (other_sort e.kind) ≡ true

-- all that an entry before it may have that a line, whose entry this is, would clash with
pub record Named (h : Bytes) (ns : List ℕ) (e : Entry) : Type 0 where
  pub id : e.kind ≤ 7 → IdNamed h ns e
  pub key : 7 ≤ e.kind → KeyNamed h ns e
