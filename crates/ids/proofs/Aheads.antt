-- Names that lines still to be read have: what is noted of them, and that it stays so. Assumes nothing.
use Prim.Native.Nat.{ℕ, ◌*◌, ◌^◌, ◌≤◌, ◌<◌}
use native.Mathlib.Omega.{arith}
use mathlib.Core.Path.{◌≡◌, refl, sym, ◌∙◌}
use mathlib.Core.Bool.{Bool, true, false, ◌||◌}
use mathlib.Core.List.{List}
use lib.Dec.{eqb, ltb}
use lib.ListN.{length}
use borrow.Author.Tests.{eq-eqb, eqb-false, ne_eqb, ltb-true, ltb-false, lt-ltb, le-ltb}
use Rattle.values.specs.Bytes.{Bytes}
use Rattle.values.specs.Value.{meaning}
use Rattle.values.specs.Hash.{wide_step}
use Rattle.values.specs.Marks.{is_noted, note}
use Rattle.values.proofs.Tests.{pass, fail, test, and_l, and_r}
use Rattle.values.proofs.Markings.{note_length, note_own, note_kept, none_noted}
use Rattle.rules.specs.Entry.{Entry}
use Rattle.rules.specs.Shown.{id_in, id_meaning}
use Rattle.entries.specs.declared.entry.Entry.{Entry as CodeEntry}
use Rattle.entries.specs.Values.{entry_of}
use Rattle.ids.specs.Names.{key_hash, under_hash, id_hash, other_sort, tail_hash}
use Rattle.ids.specs.Ahead.{once, twice, note_hash, hash_noted, quoted_note, quoted_noted, note_text, text_near, note_sort, sort_noted, note_id, note_key, note_names, IdNamed, KeyNamed, Named}

either_way : (b : Bool) → (b || true) ≡ true
either_way true = refl
either_way false = refl

-- What the code computes

-- a hash, by two bits
module _ (ns : List ℕ) (hash : ℕ) {o : ℕ} (eo : o ≡ wide_step hash 0) where
  pub hash_noting : {ns' : List ℕ} → ns' ≡ note ns o → {t : ℕ} → t ≡ wide_step o 0 → {ns'' : List ℕ} → ns'' ≡ note ns' t → ns'' ≡ note_hash ns hash
  unfolding note_hash
  hash_noting e f g = g ∙ rw (e, f, eo)

  module _ {q : Bool} (a : q ≡ is_noted ns o) where
    pub hash_missed : q ≡ false → false ≡ hash_noted ns hash
    unfolding hash_noted
    hash_missed n = rw (← eo, ← a, n)

    pub hash_looked : q ≡ true → {t : ℕ} → t ≡ wide_step o 0 → {r : Bool} → r ≡ is_noted ns t → r ≡ hash_noted ns hash
    unfolding hash_noted
    hash_looked n f g = g ∙ rw (← eo, ← a, n, f)

pub ruleset two_bits = (hash_noting, hash_missed, hash_looked)

-- the last bytes of an ID
module _ (ns : List ℕ) (t : Bytes) (q : Bool) where
  pub text_quoted : q ≡ true → {ns' : List ℕ} → ns' ≡ note ns 4294967296 → ns' ≡ note_text q t ns
  unfolding note_text
  text_quoted e f = f ∙ rw (note_text, e)

  pub near_quoted : q ≡ true → true ≡ text_near ns q t
  unfolding text_near
  near_quoted e = rw e

  module _ (e : q ≡ false) where
    pub text_short : length t < 8 → ns ≡ note_text q t ns
    unfolding note_text
    text_short l = rw (note_text, e, lt-ltb (length t) 8 l)

    pub near_short : length t < 8 → true ≡ text_near ns q t
    unfolding text_near
    near_short l = rw (e, lt-ltb (length t) 8 l)

    module _ (l : 8 ≤ length t) where
      pub text_long : {hash : ℕ} → hash ≡ tail_hash t (length t) → {ns' : List ℕ} → ns' ≡ note ns hash → ns' ≡ note_text q t ns
      unfolding note_text
      text_long i f = f ∙ rw (note_text, e, le-ltb (length t) 8 l, i)

      module _ {b : Bool} (f : b ≡ quoted_noted ns) where
        pub near_any : b ≡ true → true ≡ text_near ns q t
        unfolding text_near
        near_any g = rw (e, le-ltb (length t) 8 l, ← f, g)

        pub near_long : b ≡ false → {hash : ℕ} → hash ≡ tail_hash t (length t) → {r : Bool} → r ≡ is_noted ns hash → r ≡ text_near ns q t
        unfolding text_near
        near_long g i j = j ∙ rw (e, le-ltb (length t) 8 l, ← f, g, i)

pub quoted_looked : (ns : List ℕ) {r : Bool} → r ≡ is_noted ns 4294967296 → r ≡ quoted_noted ns
unfolding quoted_noted
quoted_looked ns e = e

pub ruleset texts = (quoted_looked, text_quoted, near_quoted, text_short, near_short, text_long, near_any, near_long)

pub sort_noting : (ns : List ℕ) (kind : ℕ) {ns' : List ℕ} → ns' ≡ note ns (kind * 4294967296) → ns' ≡ note_sort ns kind
unfolding note_sort
sort_noting ns kind e = e

pub sort_looked : (ns : List ℕ) (kind : ℕ) {r : Bool} → r ≡ is_noted ns (kind * 4294967296) → r ≡ sort_noted ns kind
unfolding sort_noted
sort_looked ns kind e = e

pub ruleset sorts_noted = (sort_noting, sort_looked)

-- the names of an entry; the code holds its ID in p
module _ (h : Bytes) (x : CodeEntry) (ns : List ℕ) where
  pub id_noting : (key : ℕ) {p : Bytes} → p ≡ id_in h (entry_of x) → {ns' : List ℕ} → ns' ≡ note_text x.quoted p ns → {hash : ℕ} → hash ≡ id_hash key x.kind (id_meaning h (entry_of x))
      → {ns'' : List ℕ} → ns'' ≡ note_hash ns' hash → ns'' ≡ note_id h key (entry_of x) ns
  unfolding note_id
  id_noting key ep e i f = f ∙ rw (e, i, ep)

  module _ {key : ℕ} (ek : key ≡ key_hash h (entry_of x)) where
    pub names_typed : x.kind < 7 → {ns' : List ℕ} → ns' ≡ note_id h key (entry_of x) ns → ns' ≡ note_names h (entry_of x) ns
    unfolding note_names
    names_typed l f = f ∙ rw (ek, note_names, lt-ltb x.kind 7 l)

    module _ (l : 7 ≤ x.kind) {ns' : List ℕ} (f : ns' ≡ note_key key x.kind ns) where
      pub names_map : x.kind ≡ 7 → {ns'' : List ℕ} → ns'' ≡ note_id h key (entry_of x) ns' → ns'' ≡ note_names h (entry_of x) ns
      unfolding note_names
      names_map k g = g ∙ rw (f, ek, note_names, le-ltb x.kind 7 l, eq-eqb x.kind 7 k)

      pub names_text : (x.kind ≡ 7 → ⊥) → ns' ≡ note_names h (entry_of x) ns
      unfolding note_names
      names_text n = f ∙ rw (ek, note_names, le-ltb x.kind 7 l, ne_eqb x.kind 7 n)

pub key_noting : (key kind : ℕ) (ns : List ℕ) {rival : ℕ} → rival ≡ other_sort kind → {ns' : List ℕ} → ns' ≡ note_sort ns rival → {hash : ℕ} → hash ≡ under_hash key rival
    → {ns'' : List ℕ} → ns'' ≡ note_hash ns' hash → ns'' ≡ note_key key kind ns
unfolding note_key
key_noting key kind ns er e i f = f ∙ rw (e, i, er)

pub ruleset names_noted = (id_noting, names_typed, names_map, names_text, key_noting)

-- What is noted stays so

pub record Kept (ns ns' : List ℕ) : Type 0 where
  pub long : length ns' ≡ length ns
  pub is : (n : ℕ) → is_noted ns n ≡ true → is_noted ns' n ≡ true

pub kept_same : (ns : List ℕ) → Kept ns ns
kept_same ns = record { long = refl; is = λ n a. a }

pub kept_then : {a b c : List ℕ} → Kept a b → Kept b c → Kept a c
kept_then f g = record { long = g.long ∙ f.long; is = λ n a. g.is n (f.is n a) }

kept_note : (ns : List ℕ) (n : ℕ) → Kept ns (note ns n)
kept_note ns n = record { long = note_length ns n; is = λ m a. note_kept ns n m a }

kept_hash : (ns : List ℕ) (hash : ℕ) → Kept ns (note_hash ns hash)
unfolding note_hash
kept_hash ns hash = kept_then (kept_note ns (once hash)) (kept_note (note ns (once hash)) (twice hash))

kept_text : (q : Bool) (t : Bytes) (ns : List ℕ) → Kept ns (note_text q t ns)
unfolding note_text
kept_text true t ns = kept_note ns quoted_note
kept_text false t ns = elim (test (ltb (length t) 8)) [ pass l ↦ rw (note_text, l) (kept_same ns) | fail l ↦ rw (note_text, l) (kept_note ns (tail_hash t (length t))) ]

kept_sort : (ns : List ℕ) (kind : ℕ) → Kept ns (note_sort ns kind)
unfolding note_sort
kept_sort ns kind = kept_note ns (kind * 2 ^ 32)

kept_id : (h : Bytes) (key : ℕ) (e : Entry) (ns : List ℕ) → Kept ns (note_id h key e ns)
unfolding note_id
kept_id h key e ns = kept_then (kept_text e.quoted (id_in h e) ns) (kept_hash (note_text e.quoted (id_in h e) ns) (id_hash key e.kind (id_meaning h e)))

kept_key : (key kind : ℕ) (ns : List ℕ) → Kept ns (note_key key kind ns)
unfolding note_key
kept_key key kind ns = kept_then (kept_sort ns (other_sort kind)) (kept_hash (note_sort ns (other_sort kind)) (under_hash key (other_sort kind)))

pub kept_names : (h : Bytes) (e : Entry) (ns : List ℕ) → Kept ns (note_names h e ns)
unfolding note_names
kept_names h e ns = elim (test (ltb e.kind 7)) [
  | pass l ↦ rw (note_names, l) (kept_id h (key_hash h e) e ns)
  | fail l ↦ elim (test (eqb e.kind 7)) [
    | pass k ↦ rw (note_names, l, k) (kept_then (kept_key (key_hash h e) e.kind ns) (kept_id h (key_hash h e) e (note_key (key_hash h e) e.kind ns)))
    | fail k ↦ rw (note_names, l, k) (kept_key (key_hash h e) e.kind ns)
  ]
]

module _ {ns ns' : List ℕ} (f : Kept ns ns') where
  hash_kept : (hash : ℕ) → hash_noted ns hash ≡ true → hash_noted ns' hash ≡ true
  unfolding hash_noted
  hash_kept hash a = rw (f.is (once hash) (and_l (is_noted ns (once hash)) _ a), f.is (twice hash) (and_r (is_noted ns (once hash)) _ a))

  sort_kept : (kind : ℕ) → sort_noted ns kind ≡ true → sort_noted ns' kind ≡ true
  unfolding sort_noted
  sort_kept kind a = f.is (kind * 2 ^ 32) a

  near_kept : (q : Bool) (t : Bytes) → text_near ns q t ≡ true → text_near ns' q t ≡ true
  unfolding text_near quoted_noted
  near_kept true t a = refl
  near_kept false t a = elim (test (ltb (length t) 8)) [
    | pass l ↦ rw l
    | fail l ↦ elim (test (quoted_noted ns)) [
      | pass g ↦ rw (l, f.is quoted_note g)
      | fail g ↦ rw (f.is (tail_hash t (length t)) (rw (l, g) at a), l) (either_way (quoted_noted ns'))
    ]
  ]

  pub named_kept : (h : Bytes) (e : Entry) → Named h ns e → Named h ns' e
  named_kept h e n = record {
    id = λ l. record { hash = hash_kept _ (n.id l).hash; near = λ q t m. near_kept q t ((n.id l).near q t m) };
    key = λ l. record { hash = hash_kept _ (n.key l).hash; sort = sort_kept _ (n.key l).sort };
  }

-- What was noted is

hash_own : (ns : List ℕ) (hash : ℕ) → hash_noted (note_hash ns hash) hash ≡ true
unfolding note_hash hash_noted
hash_own ns hash = rw (note_kept (note ns (once hash)) (twice hash) (once hash) (note_own ns (once hash)), note_own (note ns (once hash)) (twice hash))

sort_own : (ns : List ℕ) (kind : ℕ) → sort_noted (note_sort ns kind) kind ≡ true
unfolding note_sort sort_noted
sort_own ns kind = note_own ns (kind * 2 ^ 32)

-- whatever means the same as an ID that was noted is near
text_own : (ns : List ℕ) (q : Bool) (t : Bytes) (q' : Bool) (t' : Bytes) → meaning q' t' ≡ meaning q t → text_near (note_text q t ns) q' t' ≡ true
unfolding note_text text_near quoted_noted
text_own ns q t true t' m = refl
text_own ns true t false t' m = rw (note_own ns quoted_note) (either_way (ltb (length t') 8))
text_own ns false t false t' m = elim (test (ltb (length t) 8)) [
  | pass l ↦ rw (m, l)
  | fail l ↦ rw (m, note_text, l, note_own ns (tail_hash t (length t))) (either_way (quoted_noted (note ns (tail_hash t (length t)))))
]

id_own : (h : Bytes) (e : Entry) (ns : List ℕ) → IdNamed h (note_id h (key_hash h e) e ns) e
unfolding note_id
id_own h e ns =
    let text = note_text e.quoted (id_in h e) ns in
    let hash = id_hash (key_hash h e) e.kind (id_meaning h e) in
    record { hash = hash_own text hash; near = λ q t m. near_kept (kept_hash text hash) q t (text_own ns e.quoted (id_in h e) q t m) }

key_own : (h : Bytes) (e : Entry) (ns : List ℕ) → KeyNamed h (note_key (key_hash h e) e.kind ns) e
unfolding note_key
key_own h e ns =
    let sort = note_sort ns (other_sort e.kind) in
    let hash = under_hash (key_hash h e) (other_sort e.kind) in
    record { hash = hash_own sort hash; sort = sort_kept (kept_hash sort hash) (other_sort e.kind) (sort_own ns (other_sort e.kind)) }

pub names_own : (h : Bytes) (e : Entry) (ns : List ℕ) → Named h (note_names h e ns) e
unfolding note_names
names_own h e ns = elim (test (ltb e.kind 7)) [
  | pass l ↦ rw (note_names, l) (record { id = λ m. id_own h e ns; key = λ m. absurd (omega (arith, ltb-true e.kind 7 l)) })
  | fail l ↦ elim (test (eqb e.kind 7)) [
    | pass k ↦
        let before = note_key (key_hash h e) e.kind ns in
        let named = key_own h e ns in
        let more = kept_id h (key_hash h e) e before in
        rw (note_names, l, k) (record { id = λ m. id_own h e before; key = λ m. record { hash = hash_kept more _ named.hash; sort = sort_kept more _ named.sort } })
    | fail k ↦
        let ne = eqb-false e.kind 7 k in
        rw (note_names, l, k) (record { id = λ m. absurd (ne (omega (arith, ltb-false e.kind 7 l))); key = λ m. key_own h e ns })
  ]
]

-- where there are no notes, anything may have been noted
pub unnoted : (h : Bytes) (ns : List ℕ) (e : Entry) → length ns ≡ 0 → Named h ns e
unfolding hash_noted sort_noted text_near quoted_noted
unnoted h ns e z =
    let any : (n : ℕ) → is_noted ns n ≡ true = λ n. sym (none_noted ns n z) in
    record {
      id = λ l. record { hash = rw (any (once (id_hash (key_hash h e) e.kind (id_meaning h e))), any (twice (id_hash (key_hash h e) e.kind (id_meaning h e)))); near = λ q t m. near_all any q t };
      key = λ l. record { hash = rw (any (once (under_hash (key_hash h e) (other_sort e.kind))), any (twice (under_hash (key_hash h e) (other_sort e.kind)))); sort = any (other_sort e.kind * 2 ^ 32) };
    }
  where
    near_all : ((n : ℕ) → is_noted ns n ≡ true) → (q : Bool) (t : Bytes) → text_near ns q t ≡ true
    near_all any true t = refl
    near_all any false t = rw (any quoted_note) (either_way (ltb (length t) 8))
