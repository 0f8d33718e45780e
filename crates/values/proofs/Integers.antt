-- Integers: a turn of `unsigned`'s loop on plain values, the sign, and the bound of what is read. Assumes nothing.
use Rattle.std.specs.Prelude.{Option, Some, None}
use Prim.Native.Nat.{ℕ, suc, ◌+◌, ◌-◌, ◌*◌, ◌/◌, ◌^◌, ◌≤◌, ◌<◌}
use native.Mathlib.Nat.{pow-suc, one-le-pow, mul-le-mul_left}
use native.Mathlib.Omega.{arith}
use mathlib.Core.Path.{◌≡◌, refl, sym, ap, ◌∙◌}
use mathlib.Core.Bool.{Bool, true, false, not, ◌||◌, ◌&&◌}
use mathlib.Core.List.{[], ◌∷◌}
use lib.Dec.{eqb, leb, lit<}
use lib.ListN.{length, get_or, take, drop, drop_of_length-le}
use borrow.Author.Tests.{le-leb, lt-leb, leb-true, eq-eqb, ne_eqb}
use Rattle.values.specs.Bytes.{Bytes, empty, begins, any}
use Rattle.values.specs.Integer.{is_no_digit, number_of, spells, is_plain, value_if, unsigned_read, without_sign, integer_read}
use Rattle.values.proofs.Tests.{pass, fail, test, and_r, and_off, not_true, not_false, never}
use Rattle.values.proofs.Lists.{here, rest, some_pair}

other_byte : (bound : ℕ) (plain : Bool) (s : Bytes) → any is_no_digit s ≡ true → None ≡ unsigned_read bound plain s
unfolding unsigned_read
other_byte bound plain [] e = refl
other_byte bound plain (b ∷ s) e = simp e

too_large : (bound : ℕ) (plain : Bool) (s : Bytes) → bound < number_of s → None ≡ unsigned_read bound plain s
unfolding unsigned_read
too_large bound plain [] h = refl
too_large bound plain (b ∷ s) h =
    sym (ap (λ (t : Bool). value_if t (number_of (b ∷ s)) plain) (and_off (not (any is_no_digit (b ∷ s))) (lt-leb (number_of (b ∷ s)) bound h)))

pub spelled : (bound : ℕ) (plain : Bool) (s : Bytes) → (length s ≡ 0 → ⊥) → any is_no_digit s ≡ false → number_of s ≤ bound → Some (number_of s, plain) ≡ unsigned_read bound plain s
unfolding unsigned_read
spelled bound plain [] ne e h = absurd (ne refl)
spelled bound plain (b ∷ s) ne e h = simp (e, le-leb (number_of (b ∷ s)) bound h)

pub nothing : (bound : ℕ) (plain : Bool) (s : Bytes) → length s ≡ 0 → None ≡ unsigned_read bound plain s
unfolding unsigned_read
nothing bound plain [] e = refl
nothing bound plain (b ∷ s) e = absurd (let k : suc (length s) ≡ 0 = e in omega arith)

any_cons : (b : ℕ) (s : Bytes) → any is_no_digit (b ∷ s) ≡ (is_no_digit b || any is_no_digit s)
unfolding any
any_cons b s = refl

number_cons : (b : ℕ) (s : Bytes) → number_of (b ∷ s) ≡ (b - 48) * 10 ^ length s + number_of s
unfolding number_of
number_cons b s = refl

-- the first byte says whether an integer is plain

pub plain_empty : (s : Bytes) → length s ≡ 0 → true ≡ is_plain s
unfolding begins
plain_empty [] e = refl
plain_empty (b ∷ s) e = absurd (let k : suc (length s) ≡ 0 = e in omega arith)

module _ (s : Bytes) (ne : length s ≡ 0 → ⊥) where
  pub plain_sign : get_or s 0 0 ≡ 43 → false ≡ is_plain s
  unfolding begins
  plain_sign e = go s ne e
    where
      go : (t : Bytes) → (length t ≡ 0 → ⊥) → get_or t 0 0 ≡ 43 → false ≡ is_plain t
      go [] n f = absurd (n refl)
      go (b ∷ t) n f = rw (eq-eqb b 43 f)

  module _ (no : get_or s 0 0 ≡ 43 → ⊥) where
    pub plain_zero : get_or s 0 0 ≡ 48 → eqb (length s) 1 ≡ is_plain s
    unfolding begins
    plain_zero e = go s ne e
      where
        go : (t : Bytes) → (length t ≡ 0 → ⊥) → get_or t 0 0 ≡ 48 → eqb (length t) 1 ≡ is_plain t
        go [] n f = absurd (n refl)
        go (b ∷ t) n f = rw f

    pub plain_digit : (get_or s 0 0 ≡ 48 → ⊥) → true ≡ is_plain s
    unfolding begins
    plain_digit e = go s no e
      where
        go : (t : Bytes) → (get_or t 0 0 ≡ 43 → ⊥) → (get_or t 0 0 ≡ 48 → ⊥) → true ≡ is_plain t
        go [] m f = refl
        go (b ∷ t) m f = rw (ne_eqb b 43 m, ne_eqb b 48 f)

-- what answers the needs of `is_plain`
pub ruleset plains = (plain_empty, plain_sign, plain_zero, plain_digit)

-- the bytes before i are digits, and n is their number
pub record Reading (s : Bytes) (bound n i : ℕ) : Type 0 where
  pub inside : i ≤ length s
  pub small : n ≤ bound
  pub others : any is_no_digit s ≡ any is_no_digit (drop i s)
  pub value : number_of s ≡ n * 10 ^ length (drop i s) + number_of (drop i s)

module _ {s : Bytes} {bound n i : ℕ} (g : Reading s bound n i) (plain : Bool) (h : i < length s) where
  abbrev b : ℕ
  b = get_or s i 0

  abbrev t : Bytes
  t = drop (i + 1) s

  others : any is_no_digit s ≡ (is_no_digit b || any is_no_digit t)
  others = g.others ∙ rw (here s i) (any_cons b t)

  -- the digit at i joins the number
  value : number_of s ≡ (n * 10 + (b - 48)) * 10 ^ length t + number_of t
  value = g.value ∙ rw (here s i, number_cons b t, pow-suc 10 (length t)) (omega arith)

  -- q is what the code's test of the byte answered
  pub no_digit_there : {q : Bool} → q ≡ (leb 48 b && leb b 57) → q ≡ false → None ≡ unsigned_read bound plain s
  no_digit_there a e = other_byte bound plain s (others ∙ rw (← a, e))

  over : bound < n * 10 + (b - 48) → None ≡ unsigned_read bound plain s
  over lt =
      let e = value in
      let m = mul-le-mul_left (n * 10 + (b - 48)) (one-le-pow (length t) 10 (lit< tt)) in
      too_large bound plain s (omega arith)

  -- the code's two tests that the number stays within the bound
  pub over_digit : bound < b - 48 → None ≡ unsigned_read bound plain s
  over_digit lt = over (omega arith)

  pub over_number : b - 48 ≤ bound → (bound - (b - 48)) / 10 < n → None ≡ unsigned_read bound plain s
  over_number le lt = over (omega arith)

  pub more : {q : Bool} → q ≡ (leb 48 b && leb b 57) → q ≡ true → b - 48 ≤ bound → n ≤ (bound - (b - 48)) / 10 → Reading s bound (n * 10 + (b - 48)) (i + 1)
  more a e le le' = record {
    inside = omega arith;
    small = omega arith;
    others = others ∙ rw (← a, e);
    value = value;
  }

pub started : (bound : ℕ) (s : Bytes) → Reading s bound 0 0
started bound s = record { inside = omega arith; small = omega arith; others = refl; value = omega arith }

pub ended : {s : Bytes} {bound n i : ℕ} → Reading s bound n i → (plain : Bool) → length s ≤ i → (length s ≡ 0 → ⊥) → Some (n, plain) ≡ unsigned_read bound plain s
unfolding any number_of
ended {s} {bound} {n} g plain h ne =
    let e : number_of s ≡ n = g.value ∙ rw (drop_of_length-le s h) (omega arith) in
    ap (λ (m : ℕ). Some (m, plain)) (sym e) ∙ spelled bound plain s ne (g.others ∙ rw (drop_of_length-le s h)) (omega (arith, g.small))

-- what answers the needs of `unsigned`
pub ruleset turns = (nothing, started, no_digit_there, over_digit, over_number, more, ended)

with_plus : (s : Bytes) {sign : Bool} → sign ≡ true → 0 < length s → get_or s 0 0 ≡ 43 → without_sign sign s ≡ drop 1 s
unfolding without_sign begins
with_plus [] e h q = absurd (omega arith)
with_plus (b ∷ s) e h q = rw (e, eq-eqb b 43 q, without_sign)

with_none : (s : Bytes) (sign : Bool) → (get_or s 0 0 ≡ 43 → ⊥) → without_sign sign s ≡ s
unfolding without_sign begins
with_none [] true ne = refl
with_none [] false ne = refl
with_none (b ∷ s) true ne = rw (ne_eqb b 43 ne, without_sign)
with_none (b ∷ s) false ne = refl

module _ (bound : ℕ) (s : Bytes) (sign : Bool) where
  -- r is what `unsigned` answered
  module _ {p : Bool} (told : p ≡ is_plain s) {r : Option (ℕ × Bool)} where
    pub no_byte : length s ≤ 0 → r ≡ unsigned_read bound p s → r ≡ integer_read sign bound s
    no_byte h a = a ∙ rw (told, with_none s sign (no_first s (omega arith)))
      where
        no_first : (s : Bytes) → length s ≡ 0 → get_or s 0 0 ≡ 43 → ⊥
        no_first [] h q = omega arith
        no_first (b ∷ s) h q = omega arith

    pub no_sign : sign ≡ false → r ≡ unsigned_read bound p s → r ≡ integer_read sign bound s
    unfolding without_sign
    no_sign e a = a ∙ rw (told, e)

    pub no_plus : (get_or s 0 0 ≡ 43 → ⊥) → r ≡ unsigned_read bound p s → r ≡ integer_read sign bound s
    no_plus ne a = a ∙ rw (told, with_none s sign ne)

    pub plus : sign ≡ true → 0 < length s → get_or s 0 0 ≡ 43 → r ≡ unsigned_read bound p (take (length s - 1) (drop 1 s)) → r ≡ integer_read sign bound s
    plus e h q a = a ∙ rw (told, rest s 1, with_plus s e (omega arith) q)

-- what answers the needs of `integer`
pub ruleset signs = (no_byte, no_sign, no_plus, plus)

-- a number that was read is at most the bound
pub read_bound : (sign : Bool) (bound : ℕ) (s : Bytes) {n : ℕ} {p : Bool} → integer_read sign bound s ≡ Some (n, p) → n ≤ bound
unfolding unsigned_read
read_bound sign bound s e = go (is_plain s) (without_sign sign s) e
  where
    go : (plain : Bool) (w : Bytes) {n : ℕ} {p : Bool} → unsigned_read bound plain w ≡ Some (n, p) → n ≤ bound
    go plain w {n} e = elim (test (spells bound w)) [
      | pass q ↦ let k : number_of w ≡ n = (some_pair (rw q at e)).0 in
          omega (arith, leb-true (number_of w) bound (and_r (not (any is_no_digit w)) _ (and_r (not (empty w)) _ q)))
      | fail q ↦ never (cc (e, q))
    ]
