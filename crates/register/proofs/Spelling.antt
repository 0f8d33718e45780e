-- A well's ID and a constant, as they are spelled. Assumes nothing.
use Prim.Native.Nat.{ℕ, ◌+◌, ◌*◌, ◌-◌, ◌/◌, ◌%◌, ◌≤◌, ◌<◌}
use native.Mathlib.Omega.{arith}
use mathlib.Core.Path.{◌≡◌, refl, sym, ap, ◌∙◌}
use mathlib.Core.Bool.{Bool, true, false, ◌&&◌}
use mathlib.Core.List.{[], ◌∷◌}
use Rattle.std.specs.Prelude.{None, Some, Option}
use lib.Dec.{eqb, leb}
use lib.ListN.{length}
use borrow.Author.Tests.{eqb-true, leb-true, ne_eqb, le-leb, lt-leb, leb-false, eq-eqb}
use Rattle.values.specs.Bytes.{Bytes}
use Rattle.values.proofs.Tests.{Test, pass, fail, test, and_l, and_r, and_off}
use Rattle.register.specs.Cells.{nth_byte, is_between, spells_well, well_in, well_of, spells_constant, hundredths_in, in_range, hundredths}
use Rattle.values.specs.Integer.{is_digit}
use Rattle.register.specs.Wells.{digit_of, WellTold, constant_read}

-- the ID of a well: `W` and its number in two digits
abbrev pub well_id : ℕ → Bytes
well_id w = 87 ∷ (48 + w / 10) ∷ (48 + w % 10) ∷ []

pub three : (t : Bytes) → length t ≡ 3 → t ≡ nth_byte t 0 ∷ nth_byte t 1 ∷ nth_byte t 2 ∷ []
three [] e = absurd (omega arith)
three (a ∷ []) e = absurd (omega arith)
three (a ∷ b ∷ []) e = absurd (omega arith)
three (a ∷ b ∷ c ∷ []) e = refl
three (a ∷ b ∷ c ∷ d ∷ t) e = absurd (omega arith)

pub between : (low high n : ℕ) → is_between low high n ≡ true → (low ≤ n) × (n ≤ high)
between low high n e = (leb-true low n (and_l (leb low n) (leb n high) e), leb-true n high (and_r (leb low n) (leb n high) e))

-- what a text that spells a well has
pub record Spelled (t : Bytes) : Type 0 where
  pub long : length t ≡ 3
  pub first : nth_byte t 0 ≡ 87
  pub tens : (48 ≤ nth_byte t 1) × (nth_byte t 1 ≤ 57)
  pub ones : (48 ≤ nth_byte t 2) × (nth_byte t 2 ≤ 57)

pub spelled : (t : Bytes) → spells_well t ≡ true → Spelled t
unfolding spells_well
spelled t e =
    let n = and_r (eqb (length t) 3) _ e in
    let d = and_r (eqb (nth_byte t 0) 87) _ n in
    record {
      long = eqb-true (length t) 3 (and_l (eqb (length t) 3) _ e);
      first = eqb-true (nth_byte t 0) 87 (and_l (eqb (nth_byte t 0) 87) _ n);
      tens = between 48 57 (nth_byte t 1) (and_l (is_digit (nth_byte t 1)) _ d);
      ones = between 48 57 (nth_byte t 2) (and_r (is_digit (nth_byte t 1)) _ d);
    }

-- an ID names the well w, one of 1 to 40, only where it is that well's
pub well_spelled : (t : Bytes) {w : ℕ} → well_of t ≡ w → 1 ≤ w → t ≡ well_id w
unfolding well_of
well_spelled t {w} e l = elim (test (spells_well t && is_between 1 40 (well_in t))) [
  | fail q ↦ let z : 0 ≡ w = rw (q, well_of) at e in absurd (omega arith)
  | pass q ↦
      let i : well_in t ≡ w = rw (q, well_of) at e in
      let s = spelled t (and_l (spells_well t) _ q) in
      let a = s.first in
      let b : nth_byte t 1 ≡ 48 + w / 10 = omega (arith, s.tens.0, s.tens.1, s.ones.0, s.ones.1) in
      let c : nth_byte t 2 ≡ 48 + w % 10 = omega (arith, s.tens.0, s.tens.1, s.ones.0, s.ones.1) in
      three t s.long ∙ rw (a, b, c)
]

-- and two IDs that name one well are the same
pub well_one : (s t : Bytes) {w : ℕ} → well_of s ≡ w → well_of t ≡ w → 1 ≤ w → s ≡ t
well_one s t e f l = well_spelled s e l ∙ sym (well_spelled t f l)

-- a conjunction whose first half fails
and_none : {a : Bool} (b : Bool) → a ≡ false → (a && b) ≡ false
and_none b e = rw e

between_low : (low high n : ℕ) → n < low → is_between low high n ≡ false
between_low low high n l = and_none (leb n high) (lt-leb low n l)

between_high : (low high n : ℕ) → high < n → is_between low high n ≡ false
between_high low high n l = and_off (leb low n) (lt-leb n high l)

between_is : (low high n : ℕ) → low ≤ n → n ≤ high → is_between low high n ≡ true
between_is low high n a b = rw (le-leb low n a, le-leb n high b)

-- what answers the needs of `in_range`
module _ (n : ℕ) where
  in_no : is_between 50 200 n ≡ false → in_range n ≡ None
  unfolding in_range
  in_no e = rw (e, in_range)

  in_yes : is_between 50 200 n ≡ true → in_range n ≡ Some n
  unfolding in_range
  in_yes e = rw (e, in_range)

  pub range_low : n < 50 → None ≡ constant_read (in_range n)
  range_low l = sym (ap constant_read (in_no (between_low 50 200 n l)))

  pub range_high : 200 < n → None ≡ constant_read (in_range n)
  range_high l = sym (ap constant_read (in_no (between_high 50 200 n l)))

  pub range_in : 50 ≤ n → n ≤ 200 → Some n ≡ constant_read (in_range n)
  range_in a b = sym (ap constant_read (in_yes (between_is 50 200 n a b)))

pub ruleset ranges = (range_low, range_high, range_in)

-- what answers the needs of `digit`
module _ (b : ℕ) where
  digit_no : is_digit b ≡ false → digit_of b ≡ 10
  digit_no e = rw (e, digit_of)

  digit_yes : is_digit b ≡ true → digit_of b ≡ b - 48
  digit_yes e = rw (e, digit_of)

  pub digit_low : b < 48 → 10 ≡ digit_of b
  digit_low l = sym (digit_no (between_low 48 57 b l))

  pub digit_high : 57 < b → 10 ≡ digit_of b
  digit_high l = sym (digit_no (between_high 48 57 b l))

  pub digit_is : 48 ≤ b → b ≤ 57 → b - 48 ≡ digit_of b
  digit_is l m = sym (digit_yes (between_is 48 57 b l m))

pub ruleset digits = (digit_low, digit_high, digit_is)

-- a digit that was told, and none
pub record Digit (b d : ℕ) : Type 0 where
  pub is : is_digit b ≡ true
  pub number : d ≡ b - 48

told_digit : (b : ℕ) {d : ℕ} → d ≡ digit_of b → d ≤ 9 → Digit b d
told_digit b {d} e l = elim (test (is_digit b)) [
  | pass q ↦ record { is = q; number = e ∙ digit_yes b q }
  | fail q ↦ let z : d ≡ 10 = e ∙ digit_no b q in absurd (omega arith)
]

told_none : (b : ℕ) {d : ℕ} → d ≡ digit_of b → 9 < d → is_digit b ≡ false
told_none b {d} e l = elim (test (is_digit b)) [
  | pass q ↦ let z : d ≡ b - 48 = e ∙ digit_yes b q in let n = between 48 57 b q in absurd (omega (arith, n.0, n.1))
  | fail q ↦ q
]

-- what answers the needs of `well_of`
module _ (t : Bytes) where
  well_no : spells_well t && is_between 1 40 (well_in t) ≡ false → well_of t ≡ 0
  unfolding well_of
  well_no e = rw (e, well_of)

  well_yes : spells_well t && is_between 1 40 (well_in t) ≡ true → well_of t ≡ well_in t
  unfolding well_of
  well_yes e = rw (e, well_of)

  pub no_well_of : spells_well t ≡ false → well_of t ≡ 0
  no_well_of e = well_no (and_none (is_between 1 40 (well_in t)) e)

  no_well : spells_well t ≡ false → WellTold t 0
  no_well e = record { is = sym (no_well_of e); small = omega arith }

  pub well_long : (length t ≡ 3 → ⊥) → WellTold t 0
  unfolding spells_well
  well_long n = no_well (and_none _ (ne_eqb (length t) 3 n))

  pub well_first : (nth_byte t 0 ≡ 87 → ⊥) → WellTold t 0
  unfolding spells_well
  well_first n = no_well (and_off (eqb (length t) 3) (and_none _ (ne_eqb (nth_byte t 0) 87 n)))

  module _ {d c : ℕ} (e : d ≡ digit_of (nth_byte t 1)) (f : c ≡ digit_of (nth_byte t 2)) where
    pub well_tens : 9 < d → WellTold t 0
    unfolding spells_well
    well_tens l = no_well (and_off (eqb (length t) 3) (and_off (eqb (nth_byte t 0) 87) (and_none _ (told_none (nth_byte t 1) e l))))

    pub well_ones : 9 < c → WellTold t 0
    unfolding spells_well
    well_ones l = no_well (and_off (eqb (length t) 3) (and_off (eqb (nth_byte t 0) 87) (and_off (is_digit (nth_byte t 1)) (told_none (nth_byte t 2) f l))))

    module _ (long : length t ≡ 3) (first : nth_byte t 0 ≡ 87) (l : d ≤ 9) (m : c ≤ 9) where
      is_spelled : spells_well t ≡ true
      unfolding spells_well
      is_spelled = rw (eq-eqb (length t) 3 long, eq-eqb (nth_byte t 0) 87 first, (told_digit (nth_byte t 1) e l).is, (told_digit (nth_byte t 2) f m).is)

      number : d * 10 + c ≡ well_in t
      number = rw ((told_digit (nth_byte t 1) e l).number, (told_digit (nth_byte t 2) f m).number)

      pub well_high : 40 < d * 10 + c → WellTold t 0
      well_high h = let n = number in record { is = sym (well_no (and_off (spells_well t) (between_high 1 40 (well_in t) (omega (arith, n))))); small = omega arith }

      pub well_is : d * 10 + c ≤ 40 → WellTold t (d * 10 + c)
      well_is h = let n = number in record { is = n ∙ sym (go (test (leb 1 (well_in t)))); small = h }
        where
          go : Test (leb 1 (well_in t)) → well_of t ≡ well_in t
          go (pass e) = let n = number in well_yes (rw (is_spelled, between_is 1 40 (well_in t) (leb-true 1 (well_in t) e) (omega (arith, n))))
          go (fail e) = let z : well_in t ≡ 0 = omega (arith, leb-false 1 (well_in t) e) in well_no (and_off (spells_well t) (and_none (leb (well_in t) 40) e)) ∙ sym z

pub ruleset named_wells = (well_long, well_first, well_tens, well_ones, well_high, well_is)

-- what answers the needs of `hundredths`
module _ (t : Bytes) where
  pub constant_no : spells_constant t ≡ false → hundredths t ≡ None
  unfolding hundredths
  constant_no e = rw (e, hundredths)

  constant_yes : spells_constant t ≡ true → hundredths t ≡ in_range (hundredths_in t)
  unfolding hundredths
  constant_yes e = rw (e, hundredths)

  no_constant : spells_constant t ≡ false → None ≡ constant_read (hundredths t)
  no_constant e = sym (ap constant_read (constant_no e))

  pub constant_long : (length t ≡ 4 → ⊥) → None ≡ constant_read (hundredths t)
  unfolding spells_constant
  constant_long n = no_constant (and_none _ (ne_eqb (length t) 4 n))

  pub constant_point : (nth_byte t 1 ≡ 46 → ⊥) → None ≡ constant_read (hundredths t)
  unfolding spells_constant
  constant_point n = no_constant (and_off (eqb (length t) 4) (and_none _ (ne_eqb (nth_byte t 1) 46 n)))

  module _ {a b c : ℕ} (e : a ≡ digit_of (nth_byte t 0)) (f : b ≡ digit_of (nth_byte t 2)) (g : c ≡ digit_of (nth_byte t 3)) where
    -- past the length and the point
    no_digits : is_digit (nth_byte t 0) && (is_digit (nth_byte t 2) && is_digit (nth_byte t 3)) ≡ false → None ≡ constant_read (hundredths t)
    unfolding spells_constant
    no_digits q = no_constant (and_off (eqb (length t) 4) (and_off (eqb (nth_byte t 1) 46) q))

    pub constant_ones : 9 < a → None ≡ constant_read (hundredths t)
    constant_ones l = no_digits (and_none _ (told_none (nth_byte t 0) e l))

    pub constant_tenths : 9 < b → None ≡ constant_read (hundredths t)
    constant_tenths l = no_digits (and_off (is_digit (nth_byte t 0)) (and_none _ (told_none (nth_byte t 2) f l)))

    pub constant_last : 9 < c → None ≡ constant_read (hundredths t)
    constant_last l = no_digits (and_off (is_digit (nth_byte t 0)) (and_off (is_digit (nth_byte t 2)) (told_none (nth_byte t 3) g l)))

    pub constant_is : length t ≡ 4 → nth_byte t 1 ≡ 46 → a ≤ 9 → b ≤ 9 → c ≤ 9 → {r : Option ℕ} → r ≡ constant_read (in_range (a * 100 + b * 10 + c)) → r ≡ constant_read (hundredths t)
    unfolding spells_constant
    constant_is long point l m n q =
        let x = told_digit (nth_byte t 0) e l in
        let y = told_digit (nth_byte t 2) f m in
        let z = told_digit (nth_byte t 3) g n in
        let i : a * 100 + b * 10 + c ≡ hundredths_in t = rw (x.number, y.number, z.number) in
        let s : spells_constant t ≡ true = rw (eq-eqb (length t) 4 long, eq-eqb (nth_byte t 1) 46 point, x.is, y.is, z.is) in
        q ∙ ap (λ (k : ℕ). constant_read (in_range k)) i ∙ sym (ap constant_read (constant_yes s))

pub ruleset spelled_constants = (constant_long, constant_point, constant_ones, constant_tenths, constant_last, constant_is)
