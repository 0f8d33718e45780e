-- Numbers side by side in a word: one law over their widths and places. Assumes nothing.
use Prim.Native.Nat.{ℕ, ◌+◌, ◌*◌, ◌/◌, ◌%◌, ◌^◌, ◌<◌}
use native.Mathlib.Omega.{arith}
use native.Mathlib.Nat.{mod-lt, mod-eq_of_lt}
use mathlib.Core.Path.{◌≡◌, refl, sym}
use mathlib.Core.List.{List, [], ◌∷◌}
use lib.Arith.{digits_lt, digits_div, digits_mod, mod-mul}
use lib.Pow.{pow_pos, pow-add}
use Rattle.entries.specs.Words.{width, packed, numbers_in}

-- numbers that their bits can hold
abbrev pub Fit : List ℕ → List ℕ → Type 0
Fit [] [] = Unit {0}
Fit [] (x ∷ xs) = ⊥
Fit (n ∷ ns) [] = ⊥
Fit (n ∷ ns) (x ∷ xs) = (x < 2 ^ n) × Fit ns xs

packed_small : (ns xs : List ℕ) → packed ns xs < 2 ^ width ns
packed_small [] xs = omega arith
packed_small (n ∷ ns) [] = pow_pos (n + width ns)
packed_small (n ∷ ns) (x ∷ xs) = rw (pow-add 2 n (width ns)) (digits_lt (mod-lt x (pow_pos n)) (packed_small ns xs))

-- they are found there again, whatever stands above them
numbers_above : (ns xs : List ℕ) (above : ℕ) → Fit ns xs → numbers_in ns (above * 2 ^ width ns + packed ns xs) ≡ xs
numbers_above [] [] above f = refl
numbers_above [] (x ∷ xs) above f = absurd f
numbers_above (n ∷ ns) [] above f = absurd f
numbers_above (n ∷ ns) (x ∷ xs) above f =
    let k = 2 ^ width ns in
    let e : above * 2 ^ (n + width ns) + (x % 2 ^ n * k + packed ns xs) ≡ (above * 2 ^ n + x % 2 ^ n) * k + packed ns xs
    = rw (pow-add 2 n (width ns)) (omega arith) in
    rw (e, numbers_above ns xs (above * 2 ^ n + x % 2 ^ n) f.1, digits_div (above * 2 ^ n + x % 2 ^ n) (packed_small ns xs), digits_mod above (mod-lt x (pow_pos n)), mod-eq_of_lt f.0)

pub numbers_back : (ns xs : List ℕ) → Fit ns xs → numbers_in ns (packed ns xs) ≡ xs
numbers_back ns xs f = let e : packed ns xs ≡ 0 * 2 ^ width ns + packed ns xs = omega arith in rw e (numbers_above ns xs 0 f)

-- the numbers that a word holds fit their bits, and packed again they are the word's lowest bits
pub numbers_fit : (ns : List ℕ) (w : ℕ) → Fit ns (numbers_in ns w)
numbers_fit [] w = tt
numbers_fit (n ∷ ns) w = (mod-lt (w / 2 ^ width ns) (pow_pos n), numbers_fit ns w)

pub packed_back : (ns : List ℕ) (w : ℕ) → packed ns (numbers_in ns w) ≡ w % 2 ^ width ns
packed_back [] w = omega arith
packed_back (n ∷ ns) w =
    rw (mod-eq_of_lt (mod-lt (w / 2 ^ width ns) (pow_pos n)), packed_back ns w, pow-add 2 n (width ns)) (sym (mod-mul w (pow_pos n) (pow_pos (width ns))))
