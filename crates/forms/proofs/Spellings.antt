-- A value as it was read and as the form writes it: where the two are the same. Assumes nothing.
use Prim.Native.Nat.{ℕ, suc, ◌+◌, ◌-◌, ◌*◌, ◌/◌, ◌%◌, ◌^◌, ◌≤◌}
use native.Mathlib.Nat.{pow-suc}
use native.Mathlib.Omega.{arith}
use mathlib.Core.Path.{◌≡◌, refl, sym, ap, ◌∙◌}
use mathlib.Core.Bool.{Bool, true, false, not, ◌||◌, ◌&&◌}
use mathlib.Core.List.{[], ◌∷◌, ◌++◌, tail, append_assoc, append-nil}
use Rattle.std.specs.Prelude.{Option, None, Some}
use lib.Dec.{eqb, leb}
use lib.ListN.{length}
use borrow.Author.Tests.{eqb-true, eqb-false, leb-true}
use Rattle.values.specs.Bytes.{Bytes, ascii, is, empty, begins, any, before, same}
use Rattle.values.specs.Integer.{is_digit, is_no_digit, is_plain, number_of, spells, value_if, unsigned_read, without_sign, u64_read, decimal}
use Rattle.values.specs.Value.{Value, quoted, is_quoted, text_of, is_escapable, unescaped, meaning, prepend, quoted_text, in_quotes, is_stop, read_value, escape}
use Rattle.values.specs.Field.{Field, with_value, with_key, read_key, read_field}
use Rattle.values.proofs.Tests.{pass, fail, test, or_l, or_r, and_l, and_r, not_true, not_false, never}
use Rattle.values.proofs.Lists.{some_pair, OnSome, on_some, before_hit, before_miss, before_none}
use Rattle.values.proofs.Decimals.{decimal_small, decimal_large}
use Rattle.values.proofs.Escapes.{escape_slash, escape_plain, unescaped_slash, unescaped_plain, unescaped_escaped}
use Rattle.forms.specs.Forms.{quotes, shown_value}
use Rattle.forms.specs.Formed.{value_by, Clean, form_value, Spells}

-- Numbers

record Digit (d : ℕ) : Type 0 where
  low : 48 ≤ d
  high : d ≤ 57

digit : (d : ℕ) → is_no_digit d ≡ false → Digit d
digit d e = let i = not_false (is_digit d) e in record { low = leb-true 48 d (and_l (leb 48 d) (leb d 57) i); high = leb-true d 57 (and_r (leb 48 d) (leb d 57) i) }

-- digits after a number go on with its decimal form
digits_after : (n : ℕ) (ds : Bytes) → 1 ≤ n → any is_no_digit ds ≡ false → decimal (n * 10 ^ length ds + number_of ds) ≡ decimal n ++ ds
unfolding number_of any
digits_after n [] h e = let z : n * 1 + 0 ≡ n = omega arith in rw (z, append-nil (decimal n))
digits_after n (d ∷ ds) h e =
    let g = digit d (or_l (is_no_digit d) (any is_no_digit ds) e) in
    let l = g.low in
    let u = g.high in
    let m = n * 10 + (d - 48) in
    let p : n * 10 ^ suc (length ds) + ((d - 48) * 10 ^ length ds + number_of ds) ≡ m * 10 ^ length ds + number_of ds = rw (pow-suc 10 (length ds)) (omega arith) in
    let q : m / 10 ≡ n = omega arith in
    let w : 48 + m % 10 ≡ d = omega arith in
    ap decimal p ∙ digits_after m ds (omega arith) (or_r (is_no_digit d) (any is_no_digit ds) e) ∙ rw (decimal_large m (omega arith), q, w) (append_assoc (decimal n) (d ∷ []) ds)

-- one digit, or more of which the first is not 0
digits_plain : (t : Bytes) → not (begins 48 t) || eqb (length t) 1 ≡ true → any is_no_digit t ≡ false → (t ≡ [] → ⊥) → decimal (number_of t) ≡ t
unfolding number_of any begins
digits_plain [] p e n = absurd (n refl)
digits_plain (d ∷ []) p e n =
    let g = digit d (or_l (is_no_digit d) false e) in
    let l = g.low in
    let u = g.high in
    let z : (d - 48) * 1 + 0 ≡ d - 48 = omega arith in
    let w : 48 + (d - 48) ≡ d = omega arith in
    rw (z, decimal_small (d - 48) (omega arith), w)
digits_plain (d ∷ f ∷ ds) p e n = elim (test (eqb d 48)) [
  | pass q ↦ let z : eqb (suc (suc (length ds))) 1 ≡ true = rw q at p in let y = eqb-true (suc (suc (length ds))) 1 z in absurd (omega arith)
  | fail q ↦
      let g = digit d (or_l (is_no_digit d) (any is_no_digit (f ∷ ds)) e) in
      let l = g.low in
      let u = g.high in
      let o = eqb-false d 48 q in
      let w : 48 + (d - 48) ≡ d = omega arith in
      digits_after (d - 48) (f ∷ ds) (omega arith) (or_r (is_no_digit d) (any is_no_digit (f ∷ ds)) e) ∙ rw (decimal_small (d - 48) (omega arith), w)
]

some_digits : (t : Bytes) → spells (2 ^ 64 - 1) t ≡ true → (t ≡ [] → ⊥)
some_digits [] e z = never cc
some_digits (b ∷ t) e z = never cc

value_of : (b : Bool) (m : ℕ) (p : Bool) {n : ℕ} {q : Bool} → value_if b m p ≡ Some (n, q) → (b ≡ true) × (m ≡ n) × (p ≡ q)
value_of true m p e = let w = some_pair e in (refl, w.0, w.1)
value_of false m p e = never cc

plain_number : (t : Bytes) {n : ℕ} → u64_read t ≡ Some (n, true) → decimal n ≡ t
unfolding unsigned_read without_sign
plain_number t {n} e = elim (test (begins 43 t)) [
  | pass q ↦ let w = value_of (spells (2 ^ 64 - 1) (without_sign true t)) (number_of (without_sign true t)) (is_plain t) e in let z = rw q at w.2 in never cc
  | fail q ↦
      let s : without_sign true t ≡ t = rw (q, without_sign) in
      let w = value_of (spells (2 ^ 64 - 1) (without_sign true t)) (number_of (without_sign true t)) (is_plain t) e in
      let a = rw s at w.0 in
      let b = rw s at w.1 in
      ap decimal (sym b) ∙ digits_plain t (and_r (not (begins 43 t)) (not (begins 48 t) || eqb (length t) 1) w.2)
      (not_true (any is_no_digit t) (and_l (not (any is_no_digit t)) (leb (number_of t) (2 ^ 64 - 1)) (and_r (not (empty t)) (not (any is_no_digit t) && leb (number_of t) (2 ^ 64 - 1)) a))) (some_digits t a)
]

module _ (s : Bytes) {i : Option (ℕ × Bool)} (a : i ≡ u64_read s) where
  pub plain_value : {n : ℕ} {p : Bool} → i ≡ Some (n, p) → p ≡ true → shown_value true s ≡ s
  plain_value {n} {p} e f = let u : u64_read s ≡ Some (n, true) = sym a ∙ e ∙ ap (λ (x : Bool). Some (n, x)) f in rw u (plain_number s u)

  pub plain_word : i ≡ None → true ≡ true → shown_value true s ≡ s
  plain_word e f = rw (sym a ∙ e)

pub ruleset plains = (plain_value, plain_word)

-- Texts

-- what stands before a text after a backslash
abbrev slashed : Bool → Bytes → Bytes
slashed true t = 92 ∷ t
slashed false t = t

prepended : (P Q : Bytes → Type 0) (b : ℕ) (o : Option (Bytes × Bytes)) → ((t : Bytes) → P t → Q (b ∷ t)) → OnSome (λ p. P p.0) o → OnSome (λ p. Q p.0) (prepend b o)
prepended P Q b None f h = tt
prepended P Q b (Some p) f h = f p.0 h

quoted_clean : (after : Bool) (bs : Bytes) → OnSome (λ p. escape (unescaped after p.0) ≡ slashed after p.0) (quoted_text after bs)
unfolding quoted_text unescaped escape
quoted_clean true [] = tt
quoted_clean false [] = tt
quoted_clean true (b ∷ bs) = elim (test (is_escapable b)) [
  | pass e ↦ rw (quoted_text, e) (prepended (λ t. escape (unescaped false t) ≡ t) (λ t. escape (unescaped true t) ≡ 92 ∷ t) b (quoted_text false bs)
      (λ t h. rw (unescaped_escaped b t e, escape_slash b (unescaped false t) e, h)) (quoted_clean false bs))
  | fail e ↦ rw (quoted_text, e) tt
]
quoted_clean false (b ∷ bs) = elim (test (is 34 b)) [
  | pass q ↦ rw (quoted_text, q) refl
  | fail q ↦ elim (test (is 92 b)) [
    | pass e ↦ rw (quoted_text, q, e) (prepended (λ t. escape (unescaped true t) ≡ 92 ∷ t) (λ t. escape (unescaped false t) ≡ t) b (quoted_text true bs)
        (λ t h. rw (unescaped_slash b t e, h, eqb-true b 92 e)) (quoted_clean true bs))
    | fail e ↦ rw (quoted_text, q, e) (prepended (λ t. escape (unescaped false t) ≡ t) (λ t. escape (unescaped false t) ≡ t) b (quoted_text false bs)
        (λ t h. rw (unescaped_plain b t e, escape_plain b (unescaped false t) (rw (q, e)), h)) (quoted_clean false bs))
  ]
]

begins_before : (t : ℕ → Bool) (c : ℕ) (bs : Bytes) → begins c bs ≡ false → begins c (before t bs) ≡ false
unfolding begins before
begins_before t c [] e = refl
begins_before t c (b ∷ bs) e = elim (test (t b)) [ pass q ↦ rw (before_hit t b bs q) | fail q ↦ rw (before_miss t b bs q) e ]

value_clean : (bs : Bytes) → OnSome (λ p. Clean (is_quoted p.0) (text_of p.0)) (read_value false bs)
unfolding read_value
value_clean bs = elim (test (begins 34 bs)) [
  | pass e ↦ rw (read_value, e) (go (quoted_text false (tail bs)) (quoted_clean false (tail bs)))
  | fail e ↦ rw (read_value, e) (rw (begins_before is_stop 34 bs e) (before_none is_stop bs))
]
  where
    go : (o : Option (Bytes × Bytes)) → OnSome (λ p. escape (unescaped false p.0) ≡ p.0) o → OnSome (λ p. Clean (is_quoted p.0) (text_of p.0)) (in_quotes o)
    go None h = tt
    go (Some p) h = h

field_clean : (bs : Bytes) → OnSome (λ p. Clean (is_quoted p.0.value) (text_of p.0.value)) (read_field false bs)
unfolding read_field
field_clean bs = go (read_key bs)
  where
    valued : (k : Bytes) (o : Option (Value × Bytes)) → OnSome (λ p. Clean (is_quoted p.0) (text_of p.0)) o → OnSome (λ p. Clean (is_quoted p.0.value) (text_of p.0.value)) (with_value k o)
    valued k None h = tt
    valued k (Some p) h = h

    go : (o : Option (Bytes × Bytes)) → OnSome (λ p. Clean (is_quoted p.0.value) (text_of p.0.value)) (with_key false o)
    go None = tt
    go (Some p) = valued p.0 (read_value false p.1) (value_clean p.1)

pub clean : (bs : Bytes) {f : Field} {r : Bytes} → read_field false bs ≡ Some (f, r) → Clean (is_quoted f.value) (text_of f.value)
clean bs e = on_some (λ p. Clean (is_quoted p.0.value) (text_of p.0.value)) (field_clean bs) e

-- What the code asks of a value

module _ (name t : Bytes) (number q : Bool) where
  pub spells_not : Spells name number q t false
  spells_not = record { is = λ e c. never cc }

  pub spells_quoted : q ≡ true → number ≡ false → {r : Bool} → r ≡ quotes false name (meaning q t) → Spells name number q t r
  spells_quoted e f {r} a = rw (e, f) (record { is = λ o c. rw (sym (rw e at a) ∙ o) (ap quoted c) })

  bare_kept : q ≡ false → same name (ascii "Description") ≡ false → shown_value number t ≡ t → Clean q t → form_value name number (meaning q t) ≡ value_by q t
  unfolding quotes
  bare_kept e d s c = rw (e, s, quotes, d, rw e at c)

  pub spells_number : q ≡ false → {d : Bool} → d ≡ same name (ascii "Description") → not d ≡ true → not number ≡ false → {r : Bool} → (r ≡ true → shown_value true t ≡ t) → Spells name number q t r
  spells_number e {d} b f n h = record { is = λ o c. bare_kept e (sym b ∙ not_true d f) (rw (not_false number n) (h o)) c }

  pub spells_bare : q ≡ false → {d : Bool} → d ≡ same name (ascii "Description") → not d ≡ true → not number ≡ true → Spells name number q t (not number)
  spells_bare e {d} b f n = record { is = λ o c. bare_kept e (sym b ∙ not_true d f) (rw (not_true number n)) c }

pub ruleset spellings = (spells_not, spells_quoted, spells_number, spells_bare)
