-- Bytes that are UTF-8 and hold no LF: parts of a line are, and so is what is put together of them. Assumes nothing.
use Prim.Native.Nat.{ℕ, ◌<◌}
use native.Mathlib.Omega.{arith}
use mathlib.Core.Path.{◌≡◌, refl, sym, ◌∙◌}
use mathlib.Core.Bool.{Bool, true, false}
use mathlib.Core.List.{[], ◌∷◌, ◌++◌, append-nil}
use lib.Dec.{eqb, leb}
use borrow.Author.Tests.{ne_eqb, leb-true}
use Rattle.values.specs.Bytes.{Bytes, LF, is, any, before, from}
use Rattle.values.specs.Utf8.{completes, is_utf8}
use Rattle.values.specs.Integer.{is_digit, is_no_digit, decimal}
use Rattle.values.specs.Value.{unescaped, escape}
use Rattle.values.proofs.Tests.{or_l, or_r, and_l, and_r, not_false}
use Rattle.values.proofs.Lists.{any_append, before_from, from_first}
use Rattle.values.proofs.Texts.{utf8_append, utf8_ascii, utf8_split}
use Rattle.values.proofs.Escapes.{utf8_escape, utf8_unescaped, any_escape, any_unescaped}
use Rattle.values.proofs.Decimals.{decimal_digits}

pub record Pure (bs : Bytes) : Type 0 where
  pub utf8 : is_utf8 bs ≡ true
  pub line : any (is LF) bs ≡ false

pub pure_nil : Pure []
unfolding completes any
pure_nil = record { utf8 = refl; line = refl }

-- an ASCII byte that is no LF
pub record Plain (c : ℕ) : Type 0 where
  pub ascii : c < 128
  pub other : eqb c LF ≡ false

pub pure_cons : {c : ℕ} {bs : Bytes} → Plain c → Pure bs → Pure (c ∷ bs)
unfolding any
pure_cons {c} {bs} p h = record { utf8 = utf8_ascii c bs p.ascii ∙ h.utf8; line = rw p.other h.line }

pub pure_append : {xs ys : Bytes} → Pure xs → Pure ys → Pure (xs ++ ys)
pure_append {xs} {ys} g h = record {
  utf8 = utf8_append xs ys g.utf8 ∙ h.utf8;
  line = any_append (is LF) xs ys ∙ rw g.line h.line;
}

pub pure_join : {xs : Bytes} {c : ℕ} {ys : Bytes} → Plain c → Pure xs → Pure ys → Pure (xs ++ c ∷ ys)
pure_join p g h = pure_append g (pure_cons p h)

-- they fall apart at an ASCII byte
pub pure_split : (xs : Bytes) (c : ℕ) (ys : Bytes) → c < 128 → Pure (xs ++ c ∷ ys) → Pure xs × Pure ys
unfolding any
pure_split xs c ys l h =
    let u = sym (utf8_split xs c ys l) ∙ h.utf8 in
    let n = sym (any_append (is LF) xs (c ∷ ys)) ∙ h.line in
    let m = or_r (any (is LF) xs) (any (is LF) (c ∷ ys)) n in (
      record { utf8 = and_l (is_utf8 xs) (is_utf8 ys) u; line = or_l (any (is LF) xs) (any (is LF) (c ∷ ys)) n },
      record { utf8 = and_r (is_utf8 xs) (is_utf8 ys) u; line = or_r (is LF c) (any (is LF) ys) m },
    )

pub pure_tail : (c : ℕ) (bs : Bytes) → c < 128 → Pure (c ∷ bs) → Pure bs
pure_tail c bs l h = (pure_split [] c bs l h).1

-- what follows such bytes
pub pure_rest : {xs ys : Bytes} → Pure xs → Pure (xs ++ ys) → Pure ys
pure_rest {xs} {ys} g h = record {
  utf8 = sym (utf8_append xs ys g.utf8) ∙ h.utf8;
  line = or_r (any (is LF) xs) (any (is LF) ys) (sym (any_append (is LF) xs ys) ∙ h.line);
}

-- a scan for ASCII bytes cuts
pub pure_cut : (t : ℕ → Bool) → ((b : ℕ) → t b ≡ true → b < 128) → (bs : Bytes) → Pure bs → Pure (before t bs) × Pure (from t bs)
pure_cut t low bs h =
    let w : Pure (before t bs ++ from t bs) = rw (before_from t bs) h in
    let p = front (from t bs) refl w in
    (p, pure_rest p w)
  where
    front : (r : Bytes) → from t bs ≡ r → Pure (before t bs ++ from t bs) → Pure (before t bs)
    front [] e w = rw append-nil at (rw e at w)
    front (c ∷ r) e w = (pure_split (before t bs) c r (low c (from_first t bs e)) (rw e at w)).0

pub pure_unescaped : {bs : Bytes} → Pure bs → Pure (unescaped false bs)
pure_unescaped {bs} h = record { utf8 = utf8_unescaped bs h.utf8; line = any_unescaped (is LF) bs h.line }

pub pure_escape : {bs : Bytes} → Pure bs → Pure (escape bs)
pure_escape {bs} h = record { utf8 = utf8_escape bs h.utf8; line = any_escape (is LF) bs refl h.line }

-- digits
pub pure_digits : (bs : Bytes) → any is_no_digit bs ≡ false → Pure bs
unfolding any
pure_digits [] h = pure_nil
pure_digits (b ∷ bs) h =
    let d = not_false (is_digit b) (or_l (is_no_digit b) (any is_no_digit bs) h) in
    let lo = leb-true 48 b (and_l (leb 48 b) (leb b 57) d) in
    let hi = leb-true b 57 (and_r (leb 48 b) (leb b 57) d) in
    pure_cons (record { ascii = omega arith; other = ne_eqb b LF (λ e. omega arith) }) (pure_digits bs (or_r (is_no_digit b) (any is_no_digit bs) h))

pub pure_decimal : (n : ℕ) → Pure (decimal n)
pure_decimal n = pure_digits (decimal n) (decimal_digits n)
