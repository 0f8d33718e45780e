-- Sums of lists, total by total. Assumes nothing.
use Prim.Native.Nat.{ℕ, zero, suc, ◌+◌}
use native.Mathlib.Omega.{arith}
use mathlib.Core.Path.{◌≡◌, refl, ap, ap₂}
use mathlib.Core.Bool.{false}
use mathlib.Core.List.{List, [], ◌∷◌}
use lib.Dec.{ltb}
use lib.ListN.{length, replicate}
use borrow.Author.Tests.{ltb-false, le-ltb}
use Rattle.values.proofs.Tests.{or_l, or_r}
use Rattle.season.specs.Sheet.{sums, passes}

pub sums_length : (as' bs : List ℕ) → length as' ≡ length bs → length (sums as' bs) ≡ length as'
unfolding sums
sums_length [] bs e = refl
sums_length (a ∷ as') [] e = absurd (omega (arith, e))
sums_length (a ∷ as') (b ∷ bs) e = ap suc (sums_length as' bs (omega (arith, e)))

pub sums_comm : (as' bs : List ℕ) → sums as' bs ≡ sums bs as'
unfolding sums
sums_comm [] [] = refl
sums_comm [] (b ∷ bs) = refl
sums_comm (a ∷ as') [] = refl
sums_comm (a ∷ as') (b ∷ bs) = let n : a + b ≡ b + a = omega arith in ap₂ (λ (x : ℕ) (xs : List ℕ). x ∷ xs) n (sums_comm as' bs)

pub sums_assoc : (as' bs cs : List ℕ) → sums (sums as' bs) cs ≡ sums as' (sums bs cs)
unfolding sums
sums_assoc [] bs cs = refl
sums_assoc (a ∷ as') [] cs = refl
sums_assoc (a ∷ as') (b ∷ bs) [] = refl
sums_assoc (a ∷ as') (b ∷ bs) (c ∷ cs) = let n : a + b + c ≡ a + (b + c) = omega arith in ap₂ (λ (x : ℕ) (xs : List ℕ). x ∷ xs) n (sums_assoc as' bs cs)

pub sums_zeros : (n : ℕ) (as' : List ℕ) → length as' ≡ n → sums as' (replicate n 0) ≡ as'
unfolding sums
sums_zeros n [] e = refl
sums_zeros zero (a ∷ as') e = absurd (omega (arith, e))
sums_zeros (suc n) (a ∷ as') e = let z : a + 0 ≡ a = omega arith in ap₂ (λ (x : ℕ) (xs : List ℕ). x ∷ xs) z (sums_zeros n as' (omega (arith, e)))

-- where a sum passes no total, neither does a part of it
pub part_passes : (as' bs : List ℕ) → length as' ≡ length bs → passes (sums as' bs) ≡ false → passes as' ≡ false
unfolding sums passes
part_passes [] bs e f = refl
part_passes (a ∷ as') [] e f = absurd (omega (arith, e))
part_passes (a ∷ as') (b ∷ bs) e f =
    let h = ltb-false 18446744073709551615 (a + b) (or_l (ltb 18446744073709551615 (a + b)) (passes (sums as' bs)) f) in
    rw (le-ltb 18446744073709551615 a (omega (arith, h))) (part_passes as' bs (omega (arith, e)) (or_r (ltb 18446744073709551615 (a + b)) (passes (sums as' bs)) f))
