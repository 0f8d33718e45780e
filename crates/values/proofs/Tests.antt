-- Tests by cases, with the equation kept, and the parts of a test. Assumes nothing.
use Prim.Native.Nat.{ℕ}
use native.Mathlib.Omega.{arith}
use mathlib.Core.Path.{◌≡◌, refl, sym}
use mathlib.Core.Bool.{Bool, true, false, not, ◌||◌, ◌&&◌, true≢false, false≢true}
use lib.Dec.{eqb}
use borrow.Author.Tests.{eq-eqb, ne_eqb}

-- `elim (test b) [ pass e ↦ .. | fail e ↦ .. ]`
pub data Test (b : Bool) : Type 0 where
  pass : b ≡ true → Test b
  fail : b ≡ false → Test b

pub test : (b : Bool) → Test b
test true = pass refl
test false = fail refl

pub or_l : (a b : Bool) → a || b ≡ false → a ≡ false
or_l true b e = e
or_l false b e = refl

pub or_r : (a b : Bool) → a || b ≡ false → b ≡ false
or_r true b e = absurd (true≢false e)
or_r false b e = e

pub and_l : (a b : Bool) → a && b ≡ true → a ≡ true
and_l true b e = refl
and_l false b e = e

pub and_r : (a b : Bool) → a && b ≡ true → b ≡ true
and_r true b e = e
and_r false b e = absurd (false≢true e)

pub not_true : (a : Bool) → not a ≡ true → a ≡ false
not_true true e = sym e
not_true false e = refl

pub not_false : (a : Bool) → not a ≡ false → a ≡ true
not_false true e = refl
not_false false e = sym e

pub or_on : (a : Bool) {b : Bool} → b ≡ true → a || b ≡ true
or_on true e = refl
or_on false e = e

pub and_off : (a : Bool) {b : Bool} → b ≡ false → a && b ≡ false
and_off true e = e
and_off false e = refl

pub and_on : (a : Bool) → (a && true) ≡ a
and_on true = refl
and_on false = refl

-- a test is not both
pub both : {A : Type 0} {b : Bool} → b ≡ true → b ≡ false → A
both {b = b} e f = absurd (true≢false (rw e at f))

-- `never cc`, where the facts at hand make two constructors equal
pub never : {A : Type 0} → ◌≡◌ {A = ℕ} 0 1 → A
never e = absurd (omega arith)

-- a byte is x, or else
pub or_first : (b x : ℕ) (q : Bool) → b ≡ x → eqb b x ≡ (eqb b x || q)
or_first b x q e = rw (eq-eqb b x e)

pub or_second : (b x : ℕ) (q : Bool) → (b ≡ x → ⊥) → q ≡ (eqb b x || q)
or_second b x q ne = rw (ne_eqb b x ne)

pub ruleset halves = (or_first, or_second)
