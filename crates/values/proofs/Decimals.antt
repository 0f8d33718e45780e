-- Laws of the decimal form: its two cases, its number, that it is of digits and not empty, and that it is read back. Assumes nothing.
use Rattle.std.specs.Prelude.{Some}
use Prim.Native.Nat.{ℕ, zero, suc, ◌+◌, ◌-◌, ◌*◌, ◌/◌, ◌%◌, ◌≤◌, ◌<◌}
use native.Mathlib.Nat.{pow-suc}
use native.Mathlib.Numerals.{add-one}
use native.Mathlib.Omega.{arith}
use mathlib.Core.Path.{◌≡◌, refl, sym, ap, ◌∙◌}
use mathlib.Core.Bool.{Bool, true, false}
use mathlib.Core.List.{[], ◌∷◌, ◌++◌}
use lib.Dec.{ltb}
use lib.ListN.{length, length-append}
use borrow.Author.Tests.{lt-ltb, le-ltb, le-leb, ltb-true, ltb-false, eqb-true}
use Rattle.values.specs.Bytes.{Bytes, is, begins, any}
use Rattle.values.specs.Integer.{is_digit, is_no_digit, is_plain, number_of, digits_of, decimal, unsigned_read, without_sign, integer_read}
use Rattle.values.proofs.Tests.{or_l}
use Rattle.values.proofs.Lists.{any_append, any_less}
use Rattle.values.proofs.Integers.{spelled}

small_by : (more n : ℕ) → n < 10 → digits_of more n ≡ (48 + n) ∷ []
unfolding digits_of
small_by zero n h = let e : 48 + n % 10 ≡ 48 + n = omega arith in rw e
small_by (suc f) n h = rw (lt-ltb n 10 h, digits_of)

large_by : (more n : ℕ) → 10 ≤ n → digits_of (suc more) n ≡ digits_of more (n / 10) ++ (48 + n % 10) ∷ []
unfolding digits_of
large_by f n h = rw (le-ltb n 10 h, digits_of)

-- what holds below ten, and of each number of whose tenth it holds, holds
by_tenths : (P : ℕ → ℕ → Type 0) → ((f n : ℕ) → n < 10 → P f n) → ((f n : ℕ) → 10 ≤ n → P f (n / 10) → P (suc f) n) → (f n : ℕ) → n ≤ f → P f n
by_tenths P one more zero n h = one zero n (omega arith)
by_tenths P one more (suc f) n h = go (ltb n 10) refl (λ le. by_tenths P one more f (n / 10) (omega arith))
  where
    go : (t : Bool) → ltb n 10 ≡ t → (10 ≤ n → P f (n / 10)) → P (suc f) n
    go true e ih = one (suc f) n (ltb-true n 10 e)
    go false e ih = more f n (ltb-false n 10 e) (ih (ltb-false n 10 e))

-- n steps are enough
same_by : (f n : ℕ) → n ≤ f → (k : ℕ) → n ≤ k → digits_of f n ≡ digits_of k n
same_by =
    by_tenths (λ f n. (k : ℕ) → n ≤ k → digits_of f n ≡ digits_of k n)
    (λ f n h k _. small_by f n h ∙ sym (small_by k n h))
    (λ f n h ih. elim [ zero ↦ λ le. absurd (omega arith) | suc k ↦ λ le. large_by f n h ∙ rw (ih k (omega arith)) (sym (large_by k n h)) ])

pub decimal_small : (n : ℕ) → n < 10 → decimal n ≡ (48 + n) ∷ []
unfolding decimal
decimal_small n h = small_by n n h

pub decimal_large : (n : ℕ) → 10 ≤ n → decimal n ≡ decimal (n / 10) ++ (48 + n % 10) ∷ []
unfolding decimal
decimal_large zero h = absurd (omega arith)
decimal_large (suc m) h =
    large_by m (suc m) h
    ∙ ap (λ (t : Bytes). t ++ (48 + suc m % 10) ∷ []) (same_by m (suc m / 10) (omega arith) (suc m / 10) (omega arith))

-- induction over the decimal form
pub decimal_ind : (P : ℕ → Type 0) → ((n : ℕ) → n < 10 → P n) → ((n : ℕ) → 10 ≤ n → P (n / 10) → P n) → (n : ℕ) → P n
decimal_ind P one more n = by_tenths (λ f n. P n) (λ f. one) (λ f. more) n n (omega arith)

number_snoc : (s : Bytes) (b : ℕ) → number_of (s ++ b ∷ []) ≡ number_of s * 10 + (b - 48)
unfolding number_of
number_snoc [] b = omega arith
number_snoc (x ∷ s) b = rw (length-append s (b ∷ []), number_snoc s b, add-one (length s), pow-suc 10 (length s)) (omega arith)

is_digit_lem : (d : ℕ) → d < 10 → is_digit (48 + d) ≡ true
is_digit_lem d h = simp (le-leb 48 (48 + d) (omega arith), le-leb (48 + d) 57 (omega arith))

pub number_decimal : (n : ℕ) → number_of (decimal n) ≡ n
unfolding number_of
number_decimal =
    decimal_ind (λ n. number_of (decimal n) ≡ n)
    (λ n h. rw (decimal_small n h) (omega arith))
    (λ n h ih. rw (decimal_large n h, number_snoc (decimal (n / 10)) (48 + n % 10), ih) (omega arith))

pub decimal_digits : (n : ℕ) → any is_no_digit (decimal n) ≡ false
unfolding any
decimal_digits =
    decimal_ind (λ n. any is_no_digit (decimal n) ≡ false)
    (λ n h. rw (decimal_small n h, is_digit_lem n h))
    (λ n h ih. rw (decimal_large n h, any_append, ih, is_digit_lem (n % 10) (omega arith)))

pub decimal_some : (n : ℕ) → 0 < length (decimal n)
decimal_some =
    decimal_ind (λ n. 0 < length (decimal n))
    (λ n h. rw (decimal_small n h) (omega arith))
    (λ n h _. rw (decimal_large n h, length-append (decimal (n / 10)) ((48 + n % 10) ∷ [])) (omega arith))

-- the decimal form is read back
pub read_decimal : (bound n : ℕ) (plain : Bool) → n ≤ bound → unsigned_read bound plain (decimal n) ≡ Some (n, plain)
read_decimal bound n plain h =
    sym (spelled bound plain (decimal n) (λ e. omega (arith, decimal_some n)) (decimal_digits n) (rw (number_decimal n) h)) ∙ ap (λ (m : ℕ). Some (m, plain)) (number_decimal n)

-- it holds no byte that is no digit
pub decimal_lacks : (c n : ℕ) → is_digit c ≡ false → any (is c) (decimal n) ≡ false
decimal_lacks c n h = any_less (is c) is_no_digit (λ b e. rw (eqb-true b c e, h)) (decimal n) (decimal_digits n)

-- with a sign allowed or not
pub integer_decimal : (sign : Bool) (bound n : ℕ) → n ≤ bound → integer_read sign bound (decimal n) ≡ Some (n, is_plain (decimal n))
unfolding without_sign begins any
integer_decimal sign bound n h = rw (signless sign (decimal n) (decimal_lacks 43 n refl)) (read_decimal bound n (is_plain (decimal n)) h)
  where
    signless : (sign : Bool) (bs : Bytes) → any (is 43) bs ≡ false → without_sign sign bs ≡ bs
    signless true [] e = refl
    signless true (b ∷ bs) e = rw (or_l (is 43 b) (any (is 43) bs) e, without_sign)
    signless false bs e = refl
