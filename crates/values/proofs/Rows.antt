-- One law for every row of RFC 3629's table: where a span of bytes lies within one row or outside all, which antt computes, each byte of the
-- span is looked up alike. Assumes nothing.
use Prim.Native.Nat.{ℕ, ◌≤◌}
use native.Mathlib.Nat.{le_trans, lt_of_le_of_lt, lt_of_lt_of_le}
use mathlib.Core.Path.{◌≡◌, refl, ◌∙◌}
use mathlib.Core.Bool.{Bool, true, false, ◌&&◌}
use mathlib.Core.List.{List, [], ◌∷◌}
use Rattle.std.specs.Prelude.{Option, None, Some}
use lib.Dec.{leb, ltb}
use borrow.Author.Tests.{le-leb, lt-leb, leb-true, ltb-true}
use Rattle.values.specs.Utf8.{Range, Character, within, look, characters, followers}
use Rattle.values.proofs.Tests.{and_l, and_r, and_off}

pub data Found : Type 0 where
  one : Option (List Range) → Found
  split : Found

-- the span is inside the row's first bytes, below them, or above them
abbrev step : Bool → Bool → Bool → Found → Found → Found
step true below above hit more = hit
step false true above hit more = more
step false false true hit more = more
step false false false hit more = split

abbrev pub span : List Character → ℕ → ℕ → Found
span [] lo hi = one None
span (r ∷ rs) lo hi =
    step (leb r.first.low lo && leb hi r.first.high) (ltb hi r.first.low) (ltb r.first.high lo) (one (Some r.follow)) (span rs lo hi)

in_row : (r : Character) (rs : List Character) (b : ℕ) → within r.first b ≡ true → look (r ∷ rs) b ≡ Some r.follow
in_row r rs b e = rw (e, look)

off_row : (r : Character) (rs : List Character) (b : ℕ) → within r.first b ≡ false → look (r ∷ rs) b ≡ look rs b
off_row r rs b e = rw (e, look)

module _ (r : Character) (rs : List Character) (lo hi b : ℕ) {x : Option (List Range)} (l : lo ≤ b) (h : b ≤ hi) (later : span rs lo hi ≡ one x → look rs b ≡ x) where
  go : (i u o : Bool) → (leb r.first.low lo && leb hi r.first.high) ≡ i → ltb hi r.first.low ≡ u → ltb r.first.high lo ≡ o
      → step i u o (one (Some r.follow)) (span rs lo hi) ≡ one x → look (r ∷ rs) b ≡ x
  go true u o ei eu eo e =
      let low = leb r.first.low lo in
      let high = leb hi r.first.high in
      in_row r rs b (simp (
        le-leb r.first.low b (le_trans (leb-true _ _ (and_l low high ei)) l),
        le-leb b r.first.high (le_trans h (leb-true _ _ (and_r low high ei))),
      )) ∙ cc
  go false true o ei eu eo e = off_row r rs b (simp (lt-leb r.first.low b (lt_of_le_of_lt h (ltb-true _ _ eu)))) ∙ later e
  go false false true ei eu eo e =
      off_row r rs b (and_off (leb r.first.low b) (lt-leb b r.first.high (lt_of_lt_of_le (ltb-true _ _ eo) l))) ∙ later e
  go false false false ei eu eo e = cc

span_look : (rs : List Character) (lo hi b : ℕ) {x : Option (List Range)} → span rs lo hi ≡ one x → lo ≤ b → b ≤ hi → look rs b ≡ x
span_look [] lo hi b e l h = cc
span_look (r ∷ rs) lo hi b e l h =
    go r rs lo hi b l h (λ e'. span_look rs lo hi b e' l h)
    (leb r.first.low lo && leb hi r.first.high) (ltb hi r.first.low) (ltb r.first.high lo) refl refl refl e

-- each byte from lo to hi is followed alike
pub spans : (lo hi b : ℕ) {x : Option (List Range)} → span characters lo hi ≡ one x → lo ≤ b → b ≤ hi → followers b ≡ x
unfolding followers
spans lo hi b e l h = span_look characters lo hi b e l h
