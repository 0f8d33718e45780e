-- A text without escapes is its own meaning, so that it may be looked for among texts as they stand. Assumes nothing.
use Prim.Native.Nat.{ℕ}
use mathlib.Core.Path.{◌≡◌, refl, sym, ap, ◌∙◌}
use mathlib.Core.Bool.{Bool, true, false}
use mathlib.Core.List.{[], ◌∷◌}
use lib.Dec.{eqb}
use borrow.Author.Tests.{eqb-true}
use Rattle.values.specs.Bytes.{Bytes, is, any, same}
use Rattle.values.specs.Value.{is_escapable, unescaped, meaning}
use Rattle.values.proofs.Tests.{pass, fail, test, or_l, or_r, both}
use Rattle.values.proofs.Sames.{same_sound, same_self}

-- no byte that a backslash may stand before
abbrev pub Plain : Bytes → Type 0
Plain t = any is_escapable t ≡ false

-- beside a plain text, an escapable byte differs at once
escapable_differs : (b : ℕ) (t x : Bytes) → is_escapable b ≡ true → Plain x → same (b ∷ t) x ≡ false
unfolding same any
escapable_differs b t [] e p = refl
escapable_differs b t (c ∷ x) e p = elim (test (eqb b c)) [
  | pass q ↦ both (rw (← eqb-true b c q) e) (or_l (is_escapable c) (any is_escapable x) p)
  | fail q ↦ rw (q, same)
]

backslash : (b : ℕ) → is 92 b ≡ true → is_escapable b ≡ true
backslash b e = rw (eqb-true b 92 e)

after_backslash : (t x : Bytes) → Plain x → same (unescaped true t) x ≡ false
unfolding unescaped
after_backslash [] x p = escapable_differs 92 [] x refl p
after_backslash (b ∷ t) x p = elim (test (is_escapable b)) [
  | pass e ↦ rw (unescaped, e) (escapable_differs b (unescaped false t) x e p)
  | fail e ↦ rw (unescaped, e) (escapable_differs 92 (b ∷ unescaped false t) x refl p)
]

-- a text and its meaning are alike beside a plain text
pub same_raw : (t x : Bytes) → Plain x → same (unescaped false t) x ≡ same t x
unfolding unescaped same any
same_raw [] x p = refl
same_raw (b ∷ t) [] p = elim (test (is 92 b)) [
  | pass e ↦ rw (unescaped, e) (after_backslash t [] p)
  | fail e ↦ rw (unescaped, e)
]
same_raw (b ∷ t) (c ∷ x) p = elim (test (is 92 b)) [
  | pass e ↦ rw (unescaped, e) (after_backslash t (c ∷ x) p ∙ sym (escapable_differs b t (c ∷ x) (backslash b e) p))
  | fail e ↦ elim (test (eqb b c)) [
    | pass q ↦ rw (unescaped, e, same, q) (same_raw t x (or_r (is_escapable c) (any is_escapable x) p))
    | fail q ↦ rw (unescaped, e, same, q)
  ]
]

-- a test that plain texts alone pass: a text that passes is its own meaning, and so is one whose meaning passes
module _ {A : Type 0} (f : Bytes → A) (p : Bytes → Bool) (clean : (t : Bytes) → p t ≡ true → Plain t) (off : (s t : Bytes) → p s ≡ false → p t ≡ false → f s ≡ f t) where
  pub raw : (q : Bool) (t : Bytes) → f (meaning q t) ≡ f t
  raw false t = refl
  raw true t = elim (test (p t)) [
    | pass e ↦ ap f (same_sound (unescaped false t) t (same_raw t t (clean t e) ∙ same_self t))
    | fail e ↦ elim (test (p (unescaped false t))) [
      | pass g ↦ let m = unescaped false t in both (rw (same_sound t m (sym (same_raw t m (clean m g)) ∙ same_self m)) g) e
      | fail g ↦ off (unescaped false t) t g e
    ]
  ]
