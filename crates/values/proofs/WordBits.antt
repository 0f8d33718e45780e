-- Bits of words: the one that was set is, and no other. Assumes nothing.
use Prim.Native.Nat.{ℕ, zero, suc, ◌+◌, ◌*◌, ◌/◌, ◌%◌, ◌^◌, ◌<◌, ◌≤◌, min, max}
use native.Mathlib.Omega.{arith}
use native.Mathlib.Nat.{pow-suc}
use mathlib.Core.Path.{◌≡◌, refl, sym, ap, ◌∙◌}
use mathlib.Core.Bool.{false, ◌||◌}
use mathlib.Core.List.{List}
use lib.Bits.{bit_and, bit_or, and_step, or_step, and_zero_l, and_zero_r, or_zero_r}
use lib.Dec.{eqb}
use lib.ListN.{length, get_or, set, replicate, length-set, get_or-eq_default}
use lib.Pow.{pow_pos}
use lib.Seq.{set_out, get_or-set_same, get_or-set_other}
use borrow.Author.Tests.{eqb-true, eqb-false, eq-eqb, ne_eqb}
use Rattle.values.specs.Marks.{mark_bit, has_bits}
use Rattle.values.specs.Bits.{bit_at, set_bit}
use Rattle.values.proofs.Tests.{pass, fail, test}

-- In one word

or_half : (w z : ℕ) → bit_or w z / 2 ≡ bit_or (w / 2) (z / 2)
or_half w z = omega (arith, or_step w z)

or_odd : (w z : ℕ) → bit_or w z % 2 ≡ max (w % 2) (z % 2)
or_odd w z = omega (arith, or_step w z)

and_or : (w z y : ℕ) → bit_and (bit_or w z) y ≡ bit_and (bit_or (w / 2) (z / 2)) (y / 2) * 2 + min (max (w % 2) (z % 2)) (y % 2)
and_or w z y = and_step (bit_or w z) y ∙ rw (or_half w z, or_odd w z)

pow_half : (a : ℕ) → 2 ^ suc a / 2 ≡ 2 ^ a
pow_half a = omega (arith, pow-suc 2 a)

pow_even : (a : ℕ) → 2 ^ suc a % 2 ≡ 0
pow_even a = omega (arith, pow-suc 2 a)

word_own : (a w : ℕ) → bit_and (bit_or w (2 ^ a)) (2 ^ a) ≡ 2 ^ a
word_own zero w = and_or w 1 1 ∙ omega (arith, and_zero_r (bit_or (w / 2) 0))
word_own (suc a) w = and_or w (2 ^ suc a) (2 ^ suc a) ∙ rw (pow_half a, pow_even a) (omega (arith, word_own a (w / 2), pow-suc 2 a))

word_other : (a b w : ℕ) → (a ≡ b → ⊥) → bit_and (bit_or w (2 ^ a)) (2 ^ b) ≡ bit_and w (2 ^ b)
word_other zero zero w f = absurd (f refl)
word_other zero (suc b) w f =
    and_or w 1 (2 ^ suc b) ∙ rw (pow_half b, pow_even b, or_zero_r (w / 2)) (sym (and_step w (2 ^ suc b) ∙ rw (pow_half b, pow_even b) (omega arith)))
word_other (suc a) zero w f =
    and_or w (2 ^ suc a) 1 ∙ rw (pow_even a) (sym (and_step w 1 ∙ omega (arith, and_zero_r (w / 2), and_zero_r (bit_or (w / 2) (2 ^ suc a / 2)))))
word_other (suc a) (suc b) w f =
    and_or w (2 ^ suc a) (2 ^ suc b) ∙ rw (pow_half a, pow_half b, pow_even a, pow_even b, word_other a b (w / 2) (λ e. f (ap suc e)))
    (sym (and_step w (2 ^ suc b) ∙ rw (pow_half b, pow_even b) (omega arith)))

-- In some

module _ (ms : List ℕ) (n : ℕ) where
  abbrev word : ℕ
  word = bit_or (get_or ms (n / 64) 0) (mark_bit n)

  pub set_length : length (set_bit ms n) ≡ length ms
  unfolding set_bit
  set_length = length-set ms (n / 64) word

  module _ (j : ℕ) where
    same_word : j / 64 ≡ n / 64 → has_bits word (mark_bit j) ≡ (eqb j n || has_bits (get_or ms (n / 64) 0) (mark_bit j))
    unfolding has_bits mark_bit
    same_word d = elim (test (eqb j n)) [
      | pass i ↦ let e = eqb-true j n i in rw (i, e) (eq-eqb _ (2 ^ (n % 64)) (word_own (n % 64) (get_or ms (n / 64) 0)))
      | fail i ↦
          let apart : n % 64 ≡ j % 64 → ⊥ = λ m. eqb-false j n i (omega arith) in
          rw (i, word_other (n % 64) (j % 64) (get_or ms (n / 64) 0) apart)
    ]

    pub bit_set : j < 64 * length ms → bit_at (set_bit ms n) j ≡ (eqb j n || bit_at ms j)
    unfolding bit_at set_bit
    bit_set l = elim (test (eqb (j / 64) (n / 64))) [
      | fail e ↦
          let o = eqb-false (j / 64) (n / 64) e in
          rw (get_or-set_other ms (n / 64) (j / 64) word 0 o, ne_eqb j n (λ i. o (ap (λ (x : ℕ). x / 64) i)))
      | pass e ↦
          let d = eqb-true (j / 64) (n / 64) e in
          rw (d, get_or-set_same ms (n / 64) word 0 (omega arith)) (same_word d)
    ]

pub word_open : (ms : List ℕ) (n : ℕ) → get_or ms (n / 64) 0 ≡ 0 → bit_at ms n ≡ false
unfolding bit_at has_bits mark_bit
word_open ms n e = rw (e, and_zero_l (2 ^ (n % 64))) (ne_eqb 0 (2 ^ (n % 64)) (λ i. omega (arith, pow_pos (n % 64))))

pub none_set : (k n : ℕ) → bit_at (replicate k 0) n ≡ false
none_set k n = word_open (replicate k 0) n (zeros k (n / 64))
  where
    zeros : (k i : ℕ) → ◌≡◌ {A = ℕ} (get_or (replicate k 0) i 0) 0
    zeros zero i = refl
    zeros (suc k) zero = refl
    zeros (suc k) (suc i) = zeros k i

-- what answers the needs of `is_set` and `set`
module _ (ms : List ℕ) (n : ℕ) where
  pub past_unset : length ms ≤ n / 64 → false ≡ bit_at ms n
  past_unset l = sym (word_open ms n (get_or-eq_default ms 0 {n = n / 64} l))

  pub past_set : length ms ≤ n / 64 → ms ≡ set_bit ms n
  unfolding set_bit
  past_set l = sym (set_out ms (n / 64) _ l)

  module _ {bit : ℕ} (eb : bit ≡ mark_bit n) where
    pub unset_or_set : eqb (bit_and (get_or ms (n / 64) 0) bit) bit ≡ bit_at ms n
    unfolding bit_at has_bits
    unset_or_set = rw eb

    pub set_here : set ms (n / 64) (bit_or (get_or ms (n / 64) 0) bit) ≡ set_bit ms n
    unfolding set_bit
    set_here = rw eb

pub ruleset bits = (past_unset, past_set, unset_or_set, set_here)
