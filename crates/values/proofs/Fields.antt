-- Fields: the ways through the readers of a key and of a field, on plain values. Assumes nothing.
use Prim.Native.Nat.{ℕ, ◌+◌, ◌-◌, ◌≤◌, ◌<◌}
use native.Mathlib.Omega.{arith}
use mathlib.Core.Path.{◌≡◌, refl, sym, ap, ◌∙◌}
use mathlib.Core.Bool.{Bool, true, false, not, ◌&&◌, and_assoc}
use mathlib.Core.List.{[], ◌∷◌, ◌++◌, tail}
use Rattle.std.specs.Prelude.{Option, None, Some}
use lib.ListN.{length, get_or, drop, length-append, length-drop}
use lib.Seq.{take_at, drop_at, drop-drop}
use borrow.Author.Tests.{eq-eqb, ne_eqb, eqb-true}
use Rattle.values.specs.Bytes.{Bytes, ascii, is, empty, begins, any, before, from, same, part}
use Rattle.values.specs.Value.{Value, written, is_stop, read_bare, read_value}
use Rattle.values.specs.Field.{written_field, is_forbidden, ends_key, is_key, read_key, with_value, may_bracket, with_key, read_field}
use Rattle.values.specs.Places.{cursor_at, value_placed, value_at, key_placed, key_at, field_placed, field_at, separator_placed, separator_at}
use Rattle.values.specs.declared.cursor.Cursor.{Cursor}
use Rattle.values.specs.declared.string.Text.{Text}
use Rattle.values.proofs.Tests.{pass, fail, test, not_true, not_false, and_l, and_r, and_off, never}
use Rattle.values.proofs.Lists.{OnSome, on_some, drop_past, here, before_hit, before_miss, before_none, before_from, from_hit, from_miss, from_at, some_pair, none_not}
use Rattle.values.proofs.Scans.{stop_of}

-- the scan ends at the `=` of a key that has no forbidden byte, or there is no such key
data Ends (bs : Bytes) : Type 0 where
  equals : (r : Bytes) → from ends_key bs ≡ 61 ∷ r → before (is 61) bs ≡ before ends_key bs → from (is 61) bs ≡ 61 ∷ r
      → any is_forbidden (before (is 61) bs) ≡ false → Ends bs
  other : begins 61 (from ends_key bs) ≡ false → not (any is_forbidden (before (is 61) bs)) && begins 61 (from (is 61) bs) ≡ false → Ends bs

ends : (bs : Bytes) → Ends bs
unfolding begins before from any
ends [] = other refl refl
ends (b ∷ bs) = elim (test (is 61 b)) [
  | pass e ↦
      let k : ends_key b ≡ true = rw e in
      let w : b ≡ 61 = eqb-true b 61 e in
      equals bs (from_hit ends_key b bs k ∙ rw w) (before_hit (is 61) b bs e ∙ sym (before_hit ends_key b bs k)) (from_hit (is 61) b bs e ∙ rw w)
      (rw (before_hit (is 61) b bs e))
  | fail e ↦ elim (test (is_forbidden b)) [
    | pass f ↦
        let k : ends_key b ≡ true = rw e f in
        other (rw (from_hit ends_key b bs k) e) (rw (before_miss (is 61) b bs e, f))
    | fail f ↦
        let k : ends_key b ≡ false = rw e f in
        elim (ends bs) [
          | equals r p q t u ↦
              equals r (from_miss ends_key b bs k ∙ p) (before_miss (is 61) b bs e ∙ rw q (sym (before_miss ends_key b bs k))) (from_miss (is 61) b bs e ∙ t)
              (rw (before_miss (is 61) b bs e, f) u)
          | other p q ↦ other (rw (from_miss ends_key b bs k) p) (rw (before_miss (is 61) b bs e, from_miss (is 61) b bs e, f) q)
        ]
  ]
]

pub key_not : (bs : Bytes) → is_key (before (is 61) bs) && begins 61 (from (is 61) bs) ≡ false → read_key bs ≡ None
unfolding read_key
key_not bs e = rw (e, read_key)

pub key_is : (bs : Bytes) → is_key (before (is 61) bs) && begins 61 (from (is 61) bs) ≡ true → read_key bs ≡ Some (before (is 61) bs, tail (from (is 61) bs))
unfolding read_key
key_is bs e = rw (e, read_key)

no_key : (bs : Bytes) → begins 61 (from ends_key bs) ≡ false → read_key bs ≡ None
unfolding begins
no_key bs h = elim (ends bs) [
  | equals r p q t u ↦ let f : begins 61 (61 ∷ r) ≡ false = rw p at h in cc
  | other p q ↦ key_not bs (and_assoc (not (empty (before (is 61) bs))) _ _ ∙ and_off (not (empty (before (is 61) bs))) q)
]

empty_key : (bs : Bytes) → length (before ends_key bs) ≡ 0 → read_key bs ≡ None
unfolding begins
empty_key bs h = elim (ends bs) [
  | equals r p q t u ↦ key_not bs (rw q (None (before ends_key bs) h))
  | other p q ↦ no_key bs p
]
  where
    None : (k : Bytes) → length k ≡ 0 → is_key k && begins 61 (from (is 61) bs) ≡ false
    None [] e = refl
    None (b ∷ k) e = absurd (omega arith)

a_key : (bs : Bytes) {r : Bytes} → from ends_key bs ≡ 61 ∷ r → (length (before ends_key bs) ≡ 0 → ⊥) → read_key bs ≡ Some (before ends_key bs, r)
unfolding begins
a_key bs {r} e ne = elim (ends bs) [
  | equals r' p q t u ↦
      let f : r' ≡ r = cc in
      key_is bs (rw (t, u, q) (full (before ends_key bs) ne)) ∙ rw (t, q, f)
  | other p q ↦ let f : begins 61 (61 ∷ r) ≡ false = rw e at p in cc
]
  where
    full : (k : Bytes) → (length k ≡ 0 → ⊥) → (not (empty k) && true) && true ≡ true
    full [] n = absurd (n refl)
    full (b ∷ k) n = refl

-- e is where the code's scan from i ended
module _ (s : Bytes) (i : ℕ) {e : ℕ} (a : e ≡ stop_of ends_key s i) where
  rest_is : from ends_key (drop i s) ≡ drop e s
  rest_is = from_at ends_key s i ∙ rw (← a)

  pub key_empty : e ≡ i → None ≡ key_at s i
  unfolding key_at
  key_empty q = ap (key_placed i) (sym (empty_key (drop i s) (omega arith)))

  pub key_endless : length s ≤ e → None ≡ key_at s i
  unfolding key_at begins
  key_endless h = ap (key_placed i) (sym (no_key (drop i s) (rw (rest_is, drop_past s e h))))

  module _ (h : e < length s) where
    pub key_forbidden : (get_or s e 0 ≡ 61 → ⊥) → None ≡ key_at s i
    unfolding key_at begins
    key_forbidden ne = ap (key_placed i) (sym (no_key (drop i s) (rw (rest_is, here s e h) (ne_eqb (get_or s e 0) 61 ne))))

    pub key_found_lem : (e ≡ i → ⊥) → get_or s e 0 ≡ 61 → Some (e, cursor_at (e + 1)) ≡ key_at s i
    unfolding key_at
    key_found_lem ne w =
        let f : from ends_key (drop i s) ≡ 61 ∷ drop (e + 1) s = rest_is ∙ here s e h ∙ rw w in
        rw (a_key (drop i s) f (λ z. ne (omega arith)), a)

-- what answers the needs of `parse_key`
pub ruleset keys = (key_empty, key_endless, key_forbidden, key_found_lem)

-- what answers the needs of `consume_separator`
pub separator_past : (s : Bytes) (i : ℕ) → length s ≤ i → None ≡ separator_at s i
unfolding separator_at begins
separator_past s i h = rw (drop_past s i h)

pub separator_comma : (s : Bytes) (i : ℕ) → i < length s → get_or s i 0 ≡ 44 → Some (cursor_at (i + 1)) ≡ separator_at s i
unfolding separator_at begins
separator_comma s i h e = rw (here s i) (rw (eq-eqb (get_or s i 0) 44 e))

pub separator_other : (s : Bytes) (i : ℕ) → i < length s → (get_or s i 0 ≡ 44 → ⊥) → None ≡ separator_at s i
unfolding separator_at begins
separator_other s i h ne = rw (here s i) (rw (ne_eqb (get_or s i 0) 44 ne))

pub ruleset separators = (separator_past, separator_comma, separator_other)

-- what the code was told of a separator
pub placed_comma : (i : ℕ) (q : Bool) {c : Cursor} → separator_placed i q ≡ Some c → (q ≡ true) × (cursor_at (i + 1) ≡ c)
placed_comma i true e = (refl, cc)
placed_comma i false e = never cc

pub placed_other : (i : ℕ) (q : Bool) → separator_placed i q ≡ None → q ≡ false
placed_other i true e = cc
placed_other i false e = refl

-- what answers the needs of `may_bracket`
pub no_bracket : (m : Bool) (k : Bytes) → not m ≡ true → false ≡ may_bracket m k
no_bracket m k n = rw (not_true m n)

pub bracket_values : (m : Bool) (k : Bytes) → not m ≡ false → {q : Bool} → q ≡ same k (ascii "Values") → q ≡ may_bracket m k
bracket_values m k n a = a ∙ rw (not_false m n)

pub ruleset may = (no_bracket, bracket_values)

pub tail_is : (c : ℕ) (bs : Bytes) → begins c bs ≡ true → bs ≡ c ∷ tail bs
unfolding begins
tail_is c [] e = cc
tail_is c (b ∷ bs) e = rw (eqb-true b c e)

-- a key that was read stands before its `=`
pub record KeyIn (bs : Bytes) (p : Bytes × Bytes) : Type 0 where
  pub text : bs ≡ p.0 ++ 61 ∷ p.1
  pub legal : is_key p.0 ≡ true
  pub plain : any (is 61) p.0 ≡ false

pub key_in : (bs : Bytes) → OnSome (KeyIn bs) (read_key bs)
key_in bs = elim (test (is_key (before (is 61) bs) && begins 61 (from (is 61) bs))) [
  | pass q ↦ rw (key_is bs q) (record {
    text = sym (before_from (is 61) bs) ∙ ap (before (is 61) bs ++◌) (tail_is 61 (from (is 61) bs) (and_r (is_key (before (is 61) bs)) _ q));
    legal = and_l _ (begins 61 (from (is 61) bs)) q;
    plain = before_none (is 61) bs;
  })
  | fail q ↦ rw (key_not bs q) tt
]

-- a text that stands at i, and what follows it
pub text_here : (s : Bytes) (i : ℕ) (x r : Bytes) → drop i s ≡ x ++ r → (part s i (i + length x) ≡ x) × (drop (i + length x) s ≡ r)
text_here s i x r e =
    let n : i + length x - i ≡ length x = omega arith in
    (rw (n, e) (take_at x r (length x) refl), sym (drop-drop (length x) i s) ∙ rw e (drop_at x r (length x) refl))

-- what stands at i before the first byte of a class
pub before_part : (t : ℕ → Bool) (s : Bytes) (i : ℕ) {e : ℕ} → e ≡ stop_of t s i → part s i e ≡ before t (drop i s)
before_part t s i a = rw a (text_here s i (before t (drop i s)) (from t (drop i s)) (sym (before_from t (drop i s)))).0

pub text_inside : (s : Bytes) (i : ℕ) (x : Bytes) (b : ℕ) (r : Bytes) → drop i s ≡ x ++ b ∷ r → i + length x < length s
text_inside s i x b r e =
    let n = sym (length-drop i s) ∙ ap length e ∙ length-append x (b ∷ r) in
    omega arith

-- a key that the code was told of: the part before its `=`
pub record KeyHere (s : Bytes) (i e : ℕ) (c : Cursor) : Type 0 where
  pub read : read_key (drop i s) ≡ Some (part s i e, drop (e + 1) s)
  pub next : c.at ≡ e + 1
  pub size : e ≡ i + length (part s i e)
  pub inside : e < length s

key_here : (s : Bytes) (i : ℕ) {e : ℕ} {c : Cursor} → key_at s i ≡ Some (e, c) → KeyHere s i e c
unfolding key_at
key_here s i {e} {c} q = go (read_key (drop i s)) refl q
  where
    go : (x : Option (Bytes × Bytes)) → read_key (drop i s) ≡ x → key_placed i x ≡ Some (e, c) → KeyHere s i e c
    go None a f = none_not f
    go (Some p) a f =
        let w : i + length p.0 ≡ e = (some_pair f).0 in
        let n : cursor_at (i + length p.0 + 1) ≡ c = (some_pair f).1 in
        let t = (on_some (KeyIn (drop i s)) (key_in (drop i s)) a).text in
        let h = text_here s i p.0 (61 ∷ p.1) t in
        let l = text_inside s i p.0 61 p.1 t in
        let k : part s i e ≡ p.0 = rw (← w) h.0 in
        let m : drop (e + 1) s ≡ p.1 = rw (← w) (sym (drop-drop 1 (i + length p.0) s) ∙ ap tail h.1) in
        record { read = a ∙ rw (k, m); next = rw (← n, w); size = rw k (sym w); inside = omega arith }

-- the field is refused with its value, or has the places of its value
abbrev field_of : ℕ → Option (Text × Cursor) → Option (ℕ × Text × Cursor)
field_of e None = None
field_of e (Some (t, n)) = Some (e, t, n)

field_of_lem : (i : ℕ) (k : Bytes) (x : Option (Value × Bytes)) → field_placed i (with_value k x) ≡ field_of (i + length k) (value_placed (i + length k + 1) x)
unfolding written_field
field_of_lem i k None = refl
field_of_lem i k (Some p) =
    let n : i + length (k ++ 61 ∷ written p.0) ≡ i + length k + 1 + length (written p.0) = rw (length-append k (61 ∷ written p.0)) (omega arith) in
    rw n

-- r is what the code was told of the key
module _ (m : Bool) (s : Bytes) (i : ℕ) {r : Option (ℕ × Cursor)} (a : r ≡ key_at s i) where
  pub field_keyless : r ≡ None → None ≡ field_at m s i
  unfolding field_at read_field key_at
  field_keyless e = go (read_key (drop i s)) (sym a ∙ e)
    where
      go : (x : Option (Bytes × Bytes)) → key_placed i x ≡ None → None ≡ field_placed i (with_key m x)
      go None f = refl
      go (Some p) f = cc

  module _ {e : ℕ} {c : Cursor} (b : r ≡ Some (e, c)) where
    here_key : KeyHere s i e c
    here_key = key_here s i (sym a ∙ b)

    pub key_before : i ≤ e
    key_before = let k = here_key in omega arith

    pub key_inside : e ≤ length s
    key_inside = let k = here_key in omega arith

    -- q is whether the value may be bracketed, v what the code was told of it
    module _ {q : Bool} (d : q ≡ may_bracket m (part s i e)) {v : Option (Text × Cursor)} (f : v ≡ value_at q s c.at) where
      field_is : field_at m s i ≡ field_of e v
      unfolding field_at read_field value_at
      field_is =
          let k = here_key in
          rw (k.read, field_of_lem i (part s i e) (read_value (may_bracket m (part s i e)) (drop (e + 1) s)), ← d, f, k.next) (rw (← k.size))

      pub field_valueless : v ≡ None → None ≡ field_at m s i
      field_valueless g = sym (field_is ∙ rw g)

      pub field_whole : {t : Text} {n : Cursor} → v ≡ Some (t, n) → Some (e, t, n) ≡ field_at m s i
      field_whole g = sym (field_is ∙ rw g)

-- a field whose value is bare, where none may be bracketed
bare_value : (b : ℕ) (bs : Bytes) → (b ≡ 34 → ⊥) → read_value false (b ∷ bs) ≡ read_bare (b ∷ bs)
unfolding read_value begins
bare_value b bs ne = rw (ne_eqb b 34 ne, read_value)

bare_at_lem : (s : Bytes) (j : ℕ) → j < length s → (get_or s j 0 ≡ 34 → ⊥) → value_at false s j ≡ value_placed j (read_bare (drop j s))
unfolding value_at
bare_at_lem s j h ne = rw (here s j h) (ap (value_placed j) (bare_value (get_or s j 0) (drop (j + 1) s) ne))

pub bare_field : (s : Bytes) (i : ℕ) {r : Option (ℕ × Cursor)} → r ≡ key_at s i → {e : ℕ} {c : Cursor} → r ≡ Some (e, c) → c.at < length s → (get_or s c.at 0 ≡ 34 → ⊥) → {n : ℕ} → n ≡ stop_of is_stop s c.at
    → (field_at false s i ≡ Some (e, record { start = e + 1; end = n; quoted = false }, cursor_at n)) × (e < length s)
unfolding written
bare_field s i a {e} {c} b h ne f =
    let k = key_here s i (sym a ∙ b) in
    let w = sym (field_whole false s i a b refl refl (bare_at_lem s c.at h ne)) in
    (w ∙ rw (f, k.next), k.inside)

-- what answers the needs of `split_field`
pub ruleset splits = (field_keyless, key_before, key_inside, field_valueless, field_whole)
