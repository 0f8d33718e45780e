-- UTF-8: how a text is put together and falls apart. Assumes nothing.
use Prim.Native.Nat.{ℕ, ◌≤◌, ◌<◌}
use native.Mathlib.Omega.{arith}
use mathlib.Core.Path.{◌≡◌, refl}
use mathlib.Core.Bool.{true, false, ◌&&◌}
use mathlib.Core.List.{List, [], ◌∷◌, ◌++◌}
use Rattle.std.specs.Prelude.{Option, None, Some}
use borrow.Author.Tests.{lt-leb}
use Rattle.values.specs.Bytes.{Bytes}
use Rattle.values.specs.Utf8.{Range, Character, within, look, characters, followers, completes, is_utf8}
use Rattle.values.proofs.Tests.{pass, fail, test}
use Rattle.values.proofs.Rows.{spans}

pub begin_bad : (b : ℕ) (t : Bytes) → followers b ≡ None → completes [] (b ∷ t) ≡ false
unfolding completes
begin_bad b t e = rw (e, completes)

pub begin : (b : ℕ) (t : Bytes) {p : List Range} → followers b ≡ Some p → completes [] (b ∷ t) ≡ completes p t
unfolding completes
begin b t e = rw (e, completes)

pub next_bad : (b : ℕ) (t : Bytes) (r : Range) (p : List Range) → within r b ≡ false → completes (r ∷ p) (b ∷ t) ≡ false
unfolding completes
next_bad b t r p e = rw (e, completes)

pub next : (b : ℕ) (t : Bytes) (r : Range) (p : List Range) → within r b ≡ true → completes (r ∷ p) (b ∷ t) ≡ completes p t
unfolding completes
next b t r p e = rw (e, completes)

pub data Led (o : Option (List Range)) : Type 0 where
  no_row : o ≡ None → Led o
  in_row : (p : List Range) → o ≡ Some p → Led o

pub led : (o : Option (List Range)) → Led o
led None = no_row refl
led (Some p) = in_row p refl

-- every byte after a first one is 128 or more
abbrev pub High : List Range → Type 0
High [] = Unit {0}
High (r ∷ p) = (128 ≤ r.low) × High p

abbrev pub HighRows : List Character → Type 0
HighRows [] = Unit {0}
HighRows (r ∷ rs) = High r.follow × HighRows rs

abbrev pub HighLook : Option (List Range) → Type 0
HighLook None = Unit {0}
HighLook (Some p) = High p

pub look_high : (rs : List Character) (b : ℕ) → HighRows rs → HighLook (look rs b)
look_high [] b h = tt
look_high (r ∷ rs) b h = elim (test (within r.first b)) [
  | pass e ↦ rw (e, look) h.0
  | fail e ↦ rw (e, look) (look_high rs b h.1)
]

pub followers_high : (b : ℕ) {p : List Range} → followers b ≡ Some p → High p
unfolding followers
followers_high b e = rw e at (look_high characters b (omega arith))

pub low_out : (r : Range) (c : ℕ) → 128 ≤ r.low → c < 128 → within r c ≡ false
low_out r c h l = rw (lt-leb r.low c (omega arith))

-- after a whole text the rest is judged by itself
append_due : (p : List Range) (xs ys : Bytes) → completes p xs ≡ true → completes p (xs ++ ys) ≡ is_utf8 ys
unfolding completes
append_due [] [] ys h = refl
append_due (r ∷ p) [] ys h = cc
append_due [] (b ∷ xs) ys h = elim (led (followers b)) [
  | no_row e ↦ let z = rw (e, completes) at h in cc
  | in_row p e ↦ rw (e, completes) (append_due p xs ys (rw (e, completes) at h))
]
append_due (r ∷ p) (b ∷ xs) ys h = elim (test (within r b)) [
  | pass e ↦ rw (e, completes) (append_due p xs ys (rw (e, completes) at h))
  | fail e ↦ let z = rw (e, completes) at h in cc
]

-- two texts, one after the other
pub utf8_append : (xs ys : Bytes) → is_utf8 xs ≡ true → is_utf8 (xs ++ ys) ≡ is_utf8 ys
utf8_append = append_due []

-- an ASCII byte is a text
pub utf8_ascii : (c : ℕ) (ys : Bytes) → c < 128 → is_utf8 (c ∷ ys) ≡ is_utf8 ys
utf8_ascii c ys h = begin c ys (spans 0 127 c refl (omega arith) (omega arith))

split_due : (p : List Range) (xs : Bytes) (c : ℕ) (ys : Bytes) → High p → c < 128
    → completes p (xs ++ c ∷ ys) ≡ (completes p xs && is_utf8 ys)
unfolding completes
split_due [] [] c ys a l = utf8_ascii c ys l
split_due (r ∷ p) [] c ys a l = rw (low_out r c a.0 l, completes)
split_due [] (b ∷ xs) c ys a l = elim (led (followers b)) [
  | no_row e ↦ rw (e, completes)
  | in_row p e ↦ rw (e, completes) (split_due p xs c ys (followers_high b e) l)
]
split_due (r ∷ p) (b ∷ xs) c ys a l = elim (test (within r b)) [
  | pass e ↦ rw (e, completes) (split_due p xs c ys a.1 l)
  | fail e ↦ rw (e, completes)
]

-- bytes fall apart before and after an ASCII byte: they are a text where both parts are
pub utf8_split : (xs : Bytes) (c : ℕ) (ys : Bytes) → c < 128 → is_utf8 (xs ++ c ∷ ys) ≡ (is_utf8 xs && is_utf8 ys)
utf8_split xs c ys l = split_due [] xs c ys tt l
