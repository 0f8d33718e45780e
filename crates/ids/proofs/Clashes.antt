-- What the entries answer is what the rules say of the records kept so far. Assumes nothing.
use Prim.Native.Nat.{ℕ, zero, suc, ◌≤◌}
use native.Mathlib.Omega.{arith}
use mathlib.Core.Path.{◌≡◌, refl, sym, ap, ap₂, ◌∙◌}
use mathlib.Core.Bool.{Bool, true, false, not, ◌||◌, ◌&&◌, cond, false≢true}
use mathlib.Core.List.{List, [], ◌∷◌, ◌++◌}
use lib.Dec.{eqb, ltb}
use borrow.Author.Tests.{eq-eqb, ne_eqb, eqb-true, ltb-true}
use Rattle.values.specs.Bytes.{Bytes, ascii, is, any, starts, same}
use Rattle.values.specs.Field.{Field}
use Rattle.values.proofs.Tests.{pass, fail, test, or_l, or_r, and_off, both}
use Rattle.values.proofs.Sames.{same_sound, same_self}
use Rattle.rules.specs.Answer.{first}
use Rattle.rules.specs.Sizes.{Limits}
use Rattle.rules.specs.Version.{Version}
use Rattle.rules.specs.Known.{other, is_typed, kind_of}
use Rattle.rules.specs.Record.{Record, fileformat, fields, text, key_of}
use Rattle.rules.specs.Map.{value_named}
use Rattle.rules.specs.Entry.{Entry, format_kind, map_kind, text_kind, record_kind}
use Rattle.rules.specs.Shown.{line_in, id_meaning}
use Rattle.rules.specs.Reading.{id_of, is_fields, beside_of, beside, clash}
use Rattle.rules.specs.House.{write_fields, write_record}
use Rattle.rules.proofs.Firsts.{on_ok}
use Rattle.rules.proofs.Groups.{Apart}
use Rattle.rules.proofs.Records.{Entered}
use Rattle.rules.proofs.Texts.{LineOf, record_in}
use Rattle.rules.proofs.Shows.{shows_map, shows_text}
use Rattle.ids.specs.Clashes.{clash_number, has_key, key_seen, is_of_key, is_of_id, id_seen, clash_by, clash_in, prefix_of}
use Rattle.ids.proofs.KeyKinds.{typed_below, number_small, untyped_number, one_key}
use Rattle.rules.specs.Claims.{All, Row, Rows}

-- a line begins `##k=` where its key is k, since no key holds `=`
key_starts : (k j rest : Bytes) → any (is 61) k ≡ false → any (is 61) j ≡ false → starts (k ++ 61 ∷ []) (j ++ 61 ∷ rest) ≡ same j k
unfolding starts same any
key_starts [] [] rest a b = refl
key_starts [] (c ∷ j) rest a b = rw (starts, or_l (is 61 c) (any (is 61) j) b)
key_starts (c ∷ k) [] rest a b = rw (starts, flip)
  where
    flip : eqb 61 c ≡ false
    flip = ne_eqb 61 c (λ e. both (eq-eqb c 61 (sym e)) (or_l (is 61 c) (any (is 61) k) a))
key_starts (c ∷ k) (d ∷ j) rest a b = elim (test (eqb d c)) [
  | pass e ↦ rw (starts, same, e) (key_starts k j rest (or_r (is 61 c) (any (is 61) k) a) (or_r (is 61 d) (any (is 61) j) b))
  | fail e ↦ rw (starts, same, e)
]

pub prefix_starts : (k j rest : Bytes) → any (is 61) k ≡ false → any (is 61) j ≡ false → starts (prefix_of k) (ascii "##" ++ (j ++ 61 ∷ rest)) ≡ same j k
unfolding starts
prefix_starts k j rest a b = key_starts k j rest a b

-- what an entry tells of its record
record Kept (h : Bytes) (v : Version) (e : Entry) (s : Record) : Type 0 where
  kind : e.kind ≡ record_kind s
  line : (k : Bytes) → any (is 61) k ≡ false → starts (prefix_of k) (line_in h e) ≡ same (key_of s) k
  id : is_fields s ≡ true → id_meaning h e ≡ id_of v s

module _ (lim : Limits) (h : Bytes) (v : Version) (e : Entry) where
  kept : (s : Record) → Row lim h v e s → Entered v s → Kept h v e s
  unfolding write_record
  kept (fileformat w) row g = absurd g
  kept (fields k fs) row g =
      let d = shows_map lim h v k fs e row g.fine.whole in
      let l : row.line ≡ write_record (fields k fs) = on_ok (LineOf row.line) (record_in v row.line) row.read in
      record {
        kind = d.kind;
        line = λ j a. rw (d.line ∙ l) (prefix_starts j k (60 ∷ (write_fields fs ++ 62 ∷ [])) a g.key.plain);
        id = λ q. d.id;
      }
  kept (text k t) row g =
      let d = shows_text lim h v k t e row in
      let l : row.line ≡ write_record (text k t) = on_ok (LineOf row.line) (record_in v row.line) row.read in
      record {
        kind = d.is_kind;
        line = λ j a. rw (d.line ∙ l) (prefix_starts j k t a g.key.plain);
        id = λ q. absurd (false≢true q);
      }

-- The scans, by the records

unfoldable among : (Record → Bool) → List Record → Bool
among t [] = false
among t (s ∷ ss) = t s || among t ss

-- a map or a text under the key k
abbrev is_map_under : Bytes → Record → Bool
is_map_under k s = same (key_of s) k && is_fields s

abbrev is_text_under : Bytes → Record → Bool
is_text_under k s = same (key_of s) k && not (is_fields s)

-- a map under the key k with the ID m
abbrev has_id_under : Version → Bytes → Bytes → Record → Bool
has_id_under v k m s = is_map_under k s && same (id_of v s) m

and_on : (a : Bool) → (a && true) ≡ a
and_on true = refl
and_on false = refl

-- the tests of an entry, by their parts
module _ (h prefix : Bytes) (kind : ℕ) (e : Entry) {n : ℕ} (ek : e.kind ≡ n) where
  key_parts : {q : Bool} → starts prefix (line_in h e) ≡ q → has_key h prefix kind e ≡ (eqb n kind && q)
  unfolding has_key
  key_parts f = ap₂ (λ (x : ℕ) (y : Bool). eqb x kind && y) ek f

  id_parts : (m : Bytes) {q r : Bool} → is_of_key h prefix kind e ≡ q → same (id_meaning h e) m ≡ r → is_of_id h prefix kind m e ≡ (eqb n kind && (q && r))
  unfolding is_of_id
  id_parts m f g = ap₂ (λ (x : ℕ) (y : Bool). eqb x kind && y) ek (ap₂ ◌&&◌ f g)

module _ (h : Bytes) (v : Version) (k : Bytes) (plain : any (is 61) k ≡ false) (e : Entry) where
  abbrev kind : ℕ
  kind = map_kind (kind_of k)

  -- a typed kind's entries are under one key
  under_key : (j : Bytes) → map_kind (kind_of j) ≡ kind → starts (prefix_of k) (line_in h e) ≡ same j k → is_of_key h (prefix_of k) kind e ≡ same j k
  unfolding is_of_key
  under_key j a s = elim (test (ltb kind 7)) [
    | pass l ↦ rw l (sym (same_self k) ∙ ap (λ (x : Bytes). same x k) (sym (one_key j k a (ltb-true kind 7 l))))
    | fail l ↦ rw l s
  ]

  id_of_entry : (m : Bytes) (s : Record) → Entered v s → Kept h v e s → is_of_id h (prefix_of k) kind m e ≡ has_id_under v k m s
  id_of_entry m (fileformat w) g d = absurd g
  id_of_entry m (text j t) g d =
      let n : 8 ≡ kind → ⊥ = λ i. omega (arith, (number_small (kind_of k)).1) in
      id_parts h (prefix_of k) kind e d.kind m refl refl ∙ rw (ne_eqb 8 kind n, and_off (same j k) refl)
  id_of_entry m (fields j gs) g d = elim (test (eqb (map_kind (kind_of j)) kind)) [
    | pass i ↦
        id_parts h (prefix_of k) kind e d.kind m (under_key j (eqb-true _ _ i) (d.line k plain)) (ap (λ (x : Bytes). same x m) (d.id refl))
        ∙ rw (i, and_on (same j k))
    | fail i ↦ id_parts h (prefix_of k) kind e d.kind m refl refl ∙ rw i (sym (rw (differs i)))
  ]
    where
      differs : eqb (map_kind (kind_of j)) kind ≡ false → same j k ≡ false
      differs i = elim (test (same j k)) [
        | pass q ↦ both (rw (same_sound j k q) (eq-eqb kind kind refl)) i
        | fail q ↦ q
      ]

  text_of_entry : (s : Record) → Entered v s → Kept h v e s → has_key h (prefix_of k) text_kind e ≡ is_text_under k s
  text_of_entry (fileformat w) g d = absurd g
  text_of_entry (text j t) g d = key_parts h (prefix_of k) 8 e d.kind (d.line k plain) ∙ sym (and_on (same j k))
  text_of_entry (fields j gs) g d =
      let n : map_kind (kind_of j) ≡ 8 → ⊥ = λ i. omega (arith, (number_small (kind_of j)).1) in
      key_parts h (prefix_of k) 8 e d.kind refl ∙ rw (ne_eqb (map_kind (kind_of j)) 8 n) (sym (and_off (same j k) refl))

  map_of_entry : is_typed k ≡ false → (s : Record) → Entered v s → Kept h v e s → has_key h (prefix_of k) (map_kind other) e ≡ is_map_under k s
  map_of_entry u (fileformat w) g d = absurd g
  map_of_entry u (text j t) g d = key_parts h (prefix_of k) 7 e d.kind refl ∙ sym (and_off (same j k) refl)
  map_of_entry u (fields j gs) g d = key_parts h (prefix_of k) 7 e d.kind (d.line k plain) ∙ elim (test (same j k)) [
    | pass q ↦ rw (q, same_sound j k q, untyped_number k u)
    | fail q ↦ rw q (and_off (eqb (map_kind (kind_of j)) 7) refl)
  ]

-- the records' answer, where each entry answers as its record does
module _ (lim : Limits) (h : Bytes) (v : Version) where
  ids_among : (prefix : Bytes) (kind : ℕ) (m : Bytes) (t : Record → Bool) → ((e : Entry) (s : Record) → Entered v s → Kept h v e s → is_of_id h prefix kind m e ≡ t s)
      → (es : List Entry) (rs : List Record) → Rows lim h v es rs → All (Entered v) rs → id_seen h prefix kind m es ≡ among t rs
  unfolding id_seen among
  ids_among prefix kind m t f [] [] rows g = refl
  ids_among prefix kind m t f [] (s ∷ ss) rows g = absurd rows
  ids_among prefix kind m t f (e ∷ es) [] rows g = absurd rows
  ids_among prefix kind m t f (e ∷ es) (s ∷ ss) rows g =
      rw (f e s g.0 (kept lim h v e s rows.0 g.0), ids_among prefix kind m t f es ss rows.1 g.1)

  keys_among : (prefix : Bytes) (kind : ℕ) (t : Record → Bool) → ((e : Entry) (s : Record) → Entered v s → Kept h v e s → has_key h prefix kind e ≡ t s)
      → (es : List Entry) (rs : List Record) → Rows lim h v es rs → All (Entered v) rs → key_seen h prefix kind es ≡ among t rs
  unfolding key_seen among
  keys_among prefix kind t f [] [] rows g = refl
  keys_among prefix kind t f [] (s ∷ ss) rows g = absurd rows
  keys_among prefix kind t f (e ∷ es) [] rows g = absurd rows
  keys_among prefix kind t f (e ∷ es) (s ∷ ss) rows g =
      rw (f e s g.0 (kept lim h v e s rows.0 g.0), keys_among prefix kind t f es ss rows.1 g.1)

-- The rules, by the same tests

first_rest : (n : ℕ) → first (0 ∷ n ∷ []) ≡ n
unfolding first
first_rest zero = refl
first_rest (suc n) = refl

-- a record that is free beside the first is judged by the rest; one that is not, by the first
clash_rest : (v : Version) (r s : Record) (ss : List Record) → beside v r s ≡ 0 → clash v r (s ∷ ss) ≡ clash v r ss
unfolding clash
clash_rest v r s ss e = rw e (first_rest (clash v r ss))

clash_here : (v : Version) (r s : Record) (ss : List Record) (n : ℕ) → beside v r s ≡ suc n → clash v r (s ∷ ss) ≡ suc n
unfolding clash first
clash_here v r s ss n e = rw e

-- a map under k or a text under k, beside an earlier record
module _ (v : Version) (k : Bytes) (s : Record) where
  beside_map : (fs : List Field) → beside v (fields k fs) s ≡ beside_of (same (key_of s) k) true (is_fields s) (same (id_of v s) (value_named v k (ascii "ID") fs)) (is_typed k)
  unfolding beside
  beside_map fs = refl

  beside_text : (t : Bytes) → beside v (text k t) s ≡ beside_of (same (key_of s) k) false (is_fields s) (same (id_of v s) []) (is_typed k)
  unfolding beside
  beside_text t = refl

text_clash : (v : Version) (k t : Bytes) (rs : List Record) → clash v (text k t) rs ≡ cond (among (is_map_under k) rs) 20 0
unfolding clash among
text_clash v k t [] = refl
text_clash v k t (s ∷ ss) = elim (test (same (key_of s) k)) [
  | fail e ↦ clash_rest v (text k t) s ss (beside_text v k s t ∙ rw e) ∙ rw e (text_clash v k t ss)
  | pass e ↦ elim (test (is_fields s)) [
    | pass f ↦ clash_here v (text k t) s ss 19 (beside_text v k s t ∙ rw (e, f)) ∙ rw (e, f)
    | fail f ↦ clash_rest v (text k t) s ss (beside_text v k s t ∙ rw (e, f)) ∙ rw (e, f) (text_clash v k t ss)
  ]
]

-- a text has no typed key
typed_map : (v : Version) (s : Record) → Entered v s → is_typed (key_of s) ≡ true → is_fields s ≡ true
typed_map v (fileformat w) g e = absurd g
typed_map v (fields k fs) g e = refl
typed_map v (text k t) g e = both e (or_l (is_typed k) _ g.no_map)

-- where a map is under the key, no text is
no_text : (v : Version) (k : Bytes) (s : Record) → same (key_of s) k ≡ true → is_fields s ≡ true → (ss : List Record) → All (λ t. beside v t s ≡ 0) ss → among (is_text_under k) ss ≡ false
unfolding among beside
no_text v k s e f [] a = refl
no_text v k s e f (t ∷ ss) a = elim (test (same (key_of t) k)) [
  | fail q ↦ rw q (no_text v k s e f ss a.1)
  | pass q ↦ elim (test (is_fields t)) [
    | pass p ↦ rw (q, p) (no_text v k s e f ss a.1)
    | fail p ↦
        let i : same (key_of s) (key_of t) ≡ true = rw (same_sound (key_of t) k q) e in
        let z : ◌≡◌ {A = ℕ} 20 0 = rw (i, p, f) at a.0 in
        absurd (omega arith)
  ]
]

module _ (v : Version) (k : Bytes) (fs : List Field) where
  abbrev m : Bytes
  m = value_named v k (ascii "ID") fs

  typed_clash : is_typed k ≡ true → (rs : List Record) → All (Entered v) rs → clash v (fields k fs) rs ≡ cond (among (has_id_under v k m) rs) 19 0
  unfolding clash among
  typed_clash ty [] g = refl
  typed_clash ty (s ∷ ss) g = elim (test (same (key_of s) k)) [
    | fail e ↦ clash_rest v (fields k fs) s ss (beside_map v k s fs ∙ rw e) ∙ rw e (typed_clash ty ss g.1)
    | pass e ↦ let f = typed_map v s g.0 (rw (same_sound (key_of s) k e) ty) in
        elim (test (same (id_of v s) m)) [
          | pass i ↦ clash_here v (fields k fs) s ss 18 (beside_map v k s fs ∙ rw (e, f, i, ty)) ∙ rw (e, f, i)
          | fail i ↦ clash_rest v (fields k fs) s ss (beside_map v k s fs ∙ rw (e, f, i)) ∙ rw (e, f, i) (typed_clash ty ss g.1)
        ]
  ]

  other_clash : is_typed k ≡ false → (rs : List Record) → Apart v rs → clash v (fields k fs) rs ≡ cond (among (is_text_under k) rs) 20 (cond (among (has_id_under v k m) rs) 21 0)
  unfolding clash among
  other_clash ty [] a = refl
  other_clash ty (s ∷ ss) a = elim (test (same (key_of s) k)) [
    | fail e ↦ clash_rest v (fields k fs) s ss (beside_map v k s fs ∙ rw e) ∙ rw e (other_clash ty ss a.1)
    | pass e ↦ elim (test (is_fields s)) [
      | fail f ↦ clash_here v (fields k fs) s ss 19 (beside_map v k s fs ∙ rw (e, f)) ∙ rw (e, f)
      | pass f ↦ elim (test (same (id_of v s) m)) [
        | pass i ↦ clash_here v (fields k fs) s ss 20 (beside_map v k s fs ∙ rw (e, f, i, ty)) ∙ rw (e, f, i, no_text v k s e f ss a.0)
        | fail i ↦ clash_rest v (fields k fs) s ss (beside_map v k s fs ∙ rw (e, f, i)) ∙ rw (e, f, i) (other_clash ty ss a.1)
      ]
    ]
  ]

-- What the entries answer

answer_typed : (h : Bytes) (es : List Entry) (prefix : Bytes) (e : Entry) → ltb e.kind 7 ≡ true → clash_number (clash_in h es prefix e) ≡ cond (id_seen h prefix e.kind (id_meaning h e) es) 19 0
unfolding clash_by
answer_typed h es prefix e l = elim (test (id_seen h prefix e.kind (id_meaning h e) es)) [ pass f ↦ rw (clash_by, l, f) | fail f ↦ rw (clash_by, l, f) ]

answer_map : (kind : ℕ) (i t m : Bool) → kind ≡ 7 → clash_number (clash_by kind i t m) ≡ cond t 20 (cond i 21 0)
unfolding clash_by
answer_map kind true true m k = rw k
answer_map kind false true m k = rw k
answer_map kind true false m k = rw k
answer_map kind false false m k = rw k

answer_text : (kind : ℕ) (i t m : Bool) → kind ≡ 8 → clash_number (clash_by kind i t m) ≡ cond m 20 0
unfolding clash_by
answer_text kind i t true k = rw k
answer_text kind i t false k = rw k

-- the fileformat line's entry has no part in it
module _ (h prefix : Bytes) (e₀ : Entry) (format : e₀.kind ≡ format_kind) (es : List Entry) where
  skip_id : (kind : ℕ) (m : Bytes) → 2 ≤ kind → id_seen h prefix kind m (e₀ ∷ es) ≡ id_seen h prefix kind m es
  unfolding id_seen is_of_id
  skip_id kind m l = rw (ne_eqb e₀.kind kind (λ e. omega arith))

  skip_key : (kind : ℕ) → 2 ≤ kind → key_seen h prefix kind (e₀ ∷ es) ≡ key_seen h prefix kind es
  unfolding key_seen has_key
  skip_key kind l = rw (ne_eqb e₀.kind kind (λ e. omega arith))

module _ (lim : Limits) (h : Bytes) (v : Version) (e₀ : Entry) (format : e₀.kind ≡ format_kind) (es : List Entry) (rs : List Record) (rows : Rows lim h v es rs) (good : All (Entered v) rs) (apart : Apart v rs) where
  abbrev all : List Entry
  all = e₀ ∷ es

  seen_id : (k m : Bytes) → any (is 61) k ≡ false → id_seen h (prefix_of k) (map_kind (kind_of k)) m all ≡ among (has_id_under v k m) rs
  seen_id k m p =
      skip_id h (prefix_of k) e₀ format es (map_kind (kind_of k)) m (number_small (kind_of k)).0
      ∙ ids_among lim h v (prefix_of k) (map_kind (kind_of k)) m (has_id_under v k m) (λ e s g d. id_of_entry h v k p e m s g d) es rs rows good

  seen_text : (k : Bytes) → any (is 61) k ≡ false → key_seen h (prefix_of k) text_kind all ≡ among (is_text_under k) rs
  seen_text k p =
      skip_key h (prefix_of k) e₀ format es 8 (omega arith)
      ∙ keys_among lim h v (prefix_of k) 8 (is_text_under k) (λ e s g d. text_of_entry h v k p e s g d) es rs rows good

  seen_map : (k : Bytes) → any (is 61) k ≡ false → is_typed k ≡ false → key_seen h (prefix_of k) (map_kind other) all ≡ among (is_map_under k) rs
  seen_map k p u =
      skip_key h (prefix_of k) e₀ format es 7 (omega arith)
      ∙ keys_among lim h v (prefix_of k) 7 (is_map_under k) (λ e s g d. map_of_entry h v k p e u s g d) es rs rows good

  -- the new record's entry e
  new_map : (e : Entry) (k : Bytes) (fs : List Field) → any (is 61) k ≡ false → Kept h v e (fields k fs) → clash_number (clash_in h all (prefix_of k) e) ≡ clash v (fields k fs) rs
  new_map e k fs p d = let m = value_named v k (ascii "ID") fs in
      let i : id_seen h (prefix_of k) e.kind (id_meaning h e) all ≡ among (has_id_under v k m) rs
      = ap (λ (x : Bytes). id_seen h (prefix_of k) e.kind x all) (d.id refl) ∙ ap (λ (n : ℕ). id_seen h (prefix_of k) n m all) d.kind ∙ seen_id k m p in
      elim (test (is_typed k)) [
        | pass t ↦ answer_typed h all (prefix_of k) e (ap (λ (n : ℕ). ltb n 7) d.kind ∙ sym (typed_below k) ∙ t) ∙ rw i (sym (typed_clash v k fs t rs good))
        | fail t ↦ rw (i, seen_text k p) (answer_map e.kind _ _ _ (d.kind ∙ untyped_number k t) ∙ sym (other_clash v k fs t rs apart))
      ]

  new_text : (e : Entry) (k t : Bytes) → any (is 61) k ≡ false → is_typed k ≡ false → Kept h v e (text k t) → clash_number (clash_in h all (prefix_of k) e) ≡ clash v (text k t) rs
  new_text e k t p u d = rw (seen_map k p u) (answer_text e.kind _ _ _ d.kind ∙ sym (text_clash v k t rs))

  -- what the entries answer of a new record is what the rules say of it
  pub found_clash : (e : Entry) (r : Record) → Row lim h v e r → Entered v r → clash_number (clash_in h all (prefix_of (key_of r)) e) ≡ clash v r rs
  found_clash e (fileformat w) row g = absurd g
  found_clash e (fields k fs) row g = new_map e k fs g.key.plain (kept lim h v e (fields k fs) row g)
  found_clash e (text k t) row g = new_text e k t g.key.plain (or_l (is_typed k) _ g.no_map) (kept lim h v e (text k t) row g)
