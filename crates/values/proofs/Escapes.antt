-- Escaping and unescaping: they undo one another, keep UTF-8, and bring in no byte but backslashes. Assumes nothing.
use Prim.Native.Nat.{ℕ, ◌≤◌, ◌<◌}
use native.Mathlib.Omega.{arith}
use mathlib.Core.Path.{◌≡◌, refl, sym, ap, ◌∙◌}
use mathlib.Core.Bool.{Bool, true, false}
use mathlib.Core.List.{List, [], ◌∷◌, ◌++◌}
use Rattle.std.specs.Prelude.{Some}
use lib.Dec.{leb}
use borrow.Author.Tests.{eqb-true, ne_eqb, leb-true}
use Rattle.values.specs.Bytes.{Bytes, is, any}
use Rattle.values.specs.Utf8.{Range, within, followers, completes, is_utf8}
use Rattle.values.specs.Value.{is_escapable, escaped_byte, escape, unescaped, quoted_text}
use Rattle.values.proofs.Tests.{pass, fail, test, or_l, or_r, and_l, both}
use Rattle.values.proofs.Texts.{begin, begin_bad, next, next_bad, no_row, in_row, led, High, followers_high, utf8_ascii}

pub escape_slash : (b : ℕ) (bs : Bytes) → is_escapable b ≡ true → escape (b ∷ bs) ≡ 92 ∷ b ∷ escape bs
unfolding escape
escape_slash b bs e = rw (e, escaped_byte)

pub escape_plain : (b : ℕ) (bs : Bytes) → is_escapable b ≡ false → escape (b ∷ bs) ≡ b ∷ escape bs
unfolding escape
escape_plain b bs e = rw (e, escaped_byte)

pub unescaped_slash : (b : ℕ) (bs : Bytes) → is 92 b ≡ true → unescaped false (b ∷ bs) ≡ unescaped true bs
unfolding unescaped
unescaped_slash b bs e = rw (e, unescaped)

pub unescaped_plain : (b : ℕ) (bs : Bytes) → is 92 b ≡ false → unescaped false (b ∷ bs) ≡ b ∷ unescaped false bs
unfolding unescaped
unescaped_plain b bs e = rw (e, unescaped)

pub unescaped_escaped : (b : ℕ) (bs : Bytes) → is_escapable b ≡ true → unescaped true (b ∷ bs) ≡ b ∷ unescaped false bs
unfolding unescaped
unescaped_escaped b bs e = rw (e, unescaped)

pub unescaped_stray : (b : ℕ) (bs : Bytes) → is_escapable b ≡ false → unescaped true (b ∷ bs) ≡ 92 ∷ b ∷ unescaped false bs
unfolding unescaped
unescaped_stray b bs e = rw (e, unescaped)

-- what is escaped is unescaped to itself
pub unescaped_escape : (v : Bytes) → unescaped false (escape v) ≡ v
unfolding escape unescaped
unescaped_escape [] = refl
unescaped_escape (b ∷ v) = elim (test (is_escapable b)) [
  | pass e ↦ rw (escape_slash b v e) (unescaped_escaped b (escape v) e ∙ ap (b ∷◌) (unescaped_escape v))
  | fail e ↦ rw (escape_plain b v e, unescaped_plain b (escape v) (or_r (is 34 b) (is 92 b) e)) (ap (b ∷◌) (unescaped_escape v))
]

-- and is read up to its closing quote
pub quoted_escape : (v r : Bytes) → quoted_text false (escape v ++ 34 ∷ r) ≡ Some (escape v, r)
unfolding quoted_text escape
quoted_escape [] r = refl
quoted_escape (b ∷ v) r = elim (test (is_escapable b)) [
  | pass e ↦ rw (escape_slash b v e) (rw (e, quoted_text, quoted_escape v r))
  | fail e ↦
      let q = or_l (is 34 b) (is 92 b) e in
      let w = or_r (is 34 b) (is 92 b) e in
      rw (escape_plain b v e) (rw (q, w, quoted_text, quoted_escape v r))
]

pub any_escape : (t : ℕ → Bool) (v : Bytes) → t 92 ≡ false → any t v ≡ false → any t (escape v) ≡ false
unfolding any escape
any_escape t [] s h = refl
any_escape t (b ∷ v) s h = elim (test (is_escapable b)) [
  | pass e ↦ rw (escape_slash b v e, s, or_l (t b) (any t v) h) (any_escape t v s (or_r (t b) (any t v) h))
  | fail e ↦ rw (escape_plain b v e, or_l (t b) (any t v) h) (any_escape t v s (or_r (t b) (any t v) h))
]

any_unescaped_after : (t : ℕ → Bool) (e : Bool) (bs : Bytes) → (e ≡ true → t 92 ≡ false) → any t bs ≡ false → any t (unescaped e bs) ≡ false
unfolding any unescaped
any_unescaped_after t true [] s h = rw (s refl)
any_unescaped_after t false [] s h = refl
any_unescaped_after t true (b ∷ bs) s h = elim (test (is_escapable b)) [
  | pass e ↦ rw (unescaped_escaped b bs e, or_l (t b) (any t bs) h) (any_unescaped_after t false bs (λ x. cc) (or_r (t b) (any t bs) h))
  | fail e ↦ rw (unescaped_stray b bs e, s refl, or_l (t b) (any t bs) h) (any_unescaped_after t false bs (λ x. cc) (or_r (t b) (any t bs) h))
]
any_unescaped_after t false (b ∷ bs) s h = elim (test (is 92 b)) [
  | pass e ↦ rw (unescaped_slash b bs e)
      (any_unescaped_after t true bs (λ x. rw (eqb-true b 92 e) at (or_l (t b) (any t bs) h)) (or_r (t b) (any t bs) h))
  | fail e ↦ rw (unescaped_plain b bs e, or_l (t b) (any t bs) h) (any_unescaped_after t false bs (λ x. cc) (or_r (t b) (any t bs) h))
]

pub any_unescaped : (t : ℕ → Bool) (bs : Bytes) → any t bs ≡ false → any t (unescaped false bs) ≡ false
any_unescaped t bs h = any_unescaped_after t false bs (λ x. cc) h

-- a byte that is due is no ASCII byte
due_high : (r : Range) (b c : ℕ) → 128 ≤ r.low → within r b ≡ true → c < 128 → is c b ≡ false
due_high r b c h w l = let m = leb-true r.low b (and_l _ (leb b r.high) w) in ne_eqb b c (λ e. omega arith)

-- what a first byte asks, kept in the next state: a fact of the rest gives the fact of the whole
module _ (f : Bytes → Bytes) where
  first_kept : (b : ℕ) (bs : Bytes) → ((p : List Range) → High p → completes p bs ≡ true → completes p (f bs) ≡ true)
      → completes [] (b ∷ bs) ≡ true → completes [] (b ∷ f bs) ≡ true
  first_kept b bs ih c = elim (led (followers b)) [
    | no_row e ↦ both c (begin_bad b bs e)
    | in_row p e ↦ begin b (f bs) e ∙ ih p (followers_high b e) (sym (begin b bs e) ∙ c)
  ]

  next_kept : (r : Range) (due : List Range) (b : ℕ) (bs : Bytes) → (completes due bs ≡ true → completes due (f bs) ≡ true)
      → completes (r ∷ due) (b ∷ bs) ≡ true → completes (r ∷ due) (b ∷ f bs) ≡ true
  next_kept r due b bs ih c = elim (test (within r b)) [
    | pass e ↦ next b (f bs) r due e ∙ ih (sym (next b bs r due e) ∙ c)
    | fail e ↦ both c (next_bad b bs r due e)
  ]

  within_due : (r : Range) (due : List Range) (b : ℕ) (bs : Bytes) → completes (r ∷ due) (b ∷ bs) ≡ true → within r b ≡ true
  within_due r due b bs c = elim (test (within r b)) [ pass e ↦ e | fail e ↦ both c (next_bad b bs r due e) ]

escape_due : (due : List Range) (v : Bytes) → High due → completes due v ≡ true → completes due (escape v) ≡ true
unfolding escape
escape_due due [] h c = c
escape_due [] (b ∷ v) h c = elim (test (is_escapable b)) [
  | pass e ↦ rw (escape_slash b v e) (utf8_ascii 92 (b ∷ escape v) (omega arith) ∙ first_kept escape b v (λ p hp cp. escape_due p v hp cp) c)
  | fail e ↦ rw (escape_plain b v e) (first_kept escape b v (λ p hp cp. escape_due p v hp cp) c)
]
escape_due (r ∷ due) (b ∷ v) h c =
    let w = within_due escape r due b v c in
    let q : is_escapable b ≡ false = rw (due_high r b 34 h.0 w (omega arith)) (due_high r b 92 h.0 w (omega arith)) in
    rw (escape_plain b v q) (next_kept escape r due b v (λ cp. escape_due due v h.1 cp) c)

pub utf8_escape : (v : Bytes) → is_utf8 v ≡ true → is_utf8 (escape v) ≡ true
utf8_escape v c = escape_due [] v tt c

unescaped_due : (e : Bool) (due : List Range) (bs : Bytes) → (e ≡ true → due ≡ []) → High due → completes due bs ≡ true → completes due (unescaped e bs) ≡ true
unfolding unescaped
unescaped_due true due [] n h c = rw (n refl) (utf8_ascii 92 [] (omega arith) ∙ rw (n refl) at c)
unescaped_due false due [] n h c = c
unescaped_due true due (b ∷ bs) n h c =
    let k : completes [] (b ∷ unescaped false bs) ≡ true = first_kept (unescaped false) b bs (λ p hp cp. unescaped_due false p bs (λ x. cc) hp cp) (rw (n refl) at c) in
    rw (n refl) (elim (test (is_escapable b)) [
      | pass e ↦ rw (unescaped_escaped b bs e) k
      | fail e ↦ rw (unescaped_stray b bs e) (utf8_ascii 92 (b ∷ unescaped false bs) (omega arith) ∙ k)
    ])
unescaped_due false [] (b ∷ bs) n h c = elim (test (is 92 b)) [
  | pass e ↦ rw (unescaped_slash b bs e) (unescaped_due true [] bs (λ x. refl) tt (sym (utf8_ascii 92 bs (omega arith)) ∙ rw (eqb-true b 92 e) at c))
  | fail e ↦ rw (unescaped_plain b bs e) (first_kept (unescaped false) b bs (λ p hp cp. unescaped_due false p bs (λ x. cc) hp cp) c)
]
unescaped_due false (r ∷ due) (b ∷ bs) n h c =
    let w = within_due (unescaped false) r due b bs c in
    rw (unescaped_plain b bs (due_high r b 92 h.0 w (omega arith)))
    (next_kept (unescaped false) r due b bs (λ cp. unescaped_due false due bs (λ x. cc) h.1 cp) c)

pub utf8_unescaped : (bs : Bytes) → is_utf8 bs ≡ true → is_utf8 (unescaped false bs) ≡ true
utf8_unescaped bs c = unescaped_due false [] bs (λ x. refl) tt c
