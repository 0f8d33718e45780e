-- A well's ID and a constant are spelled without escapes, so that a text between quotes may be looked at as it stands. Assumes nothing.
use Prim.Native.Nat.{ℕ, ◌≤◌}
use native.Mathlib.Omega.{arith}
use mathlib.Core.Path.{◌≡◌, refl, sym, ◌∙◌}
use mathlib.Core.Bool.{Bool, true, false}
use mathlib.Core.List.{[], ◌∷◌}
use lib.Dec.{eqb}
use lib.ListN.{length}
use borrow.Author.Tests.{eqb-true, ne_eqb}
use Rattle.values.specs.Bytes.{Bytes, any}
use Rattle.values.specs.Value.{is_escapable, meaning}
use Rattle.values.proofs.Tests.{and_l, and_r}
use Rattle.values.proofs.Plains.{Plain, raw}
use Rattle.register.specs.Cells.{nth_byte, spells_well, well_of, spells_constant, hundredths}
use Rattle.values.specs.Integer.{is_digit}
use Rattle.register.proofs.Spelling.{three, between, spelled, no_well_of, constant_no}

-- bytes from `.` to `W` are plain
plain_byte : (b : ℕ) → 46 ≤ b → b ≤ 87 → is_escapable b ≡ false
plain_byte b l m = rw (ne_eqb b 34 (λ e. omega arith), ne_eqb b 92 (λ e. omega arith))

well_plain : (t : Bytes) → spells_well t ≡ true → Plain t
unfolding any
well_plain t e =
    let s = spelled t e in
    rw (three t s.long)
    (rw (
      plain_byte (nth_byte t 0) (omega (arith, s.first)) (omega (arith, s.first)),
      plain_byte (nth_byte t 1) (omega (arith, s.tens.0)) (omega (arith, s.tens.1)),
      plain_byte (nth_byte t 2) (omega (arith, s.ones.0)) (omega (arith, s.ones.1)),
    ))

-- a well's ID by its meaning and as it stands
pub well_raw : (q : Bool) (t : Bytes) → well_of (meaning q t) ≡ well_of t
well_raw q t = raw well_of spells_well well_plain (λ s t a b. no_well_of s a ∙ sym (no_well_of t b)) q t

four : (t : Bytes) → length t ≡ 4 → t ≡ nth_byte t 0 ∷ nth_byte t 1 ∷ nth_byte t 2 ∷ nth_byte t 3 ∷ []
four [] e = absurd (omega arith)
four (a ∷ []) e = absurd (omega arith)
four (a ∷ b ∷ []) e = absurd (omega arith)
four (a ∷ b ∷ c ∷ []) e = absurd (omega arith)
four (a ∷ b ∷ c ∷ d ∷ []) e = refl
four (a ∷ b ∷ c ∷ d ∷ x ∷ t) e = absurd (omega arith)

constant_plain : (t : Bytes) → spells_constant t ≡ true → Plain t
unfolding any spells_constant
constant_plain t e =
    let p = and_r (eqb (length t) 4) _ e in
    let d = and_r (eqb (nth_byte t 1) 46) _ p in
    let g = and_r (is_digit (nth_byte t 0)) _ d in
    let point = eqb-true (nth_byte t 1) 46 (and_l (eqb (nth_byte t 1) 46) _ p) in
    let x = between 48 57 (nth_byte t 0) (and_l (is_digit (nth_byte t 0)) _ d) in
    let y = between 48 57 (nth_byte t 2) (and_l (is_digit (nth_byte t 2)) _ g) in
    let z = between 48 57 (nth_byte t 3) (and_r (is_digit (nth_byte t 2)) _ g) in
    rw (four t (eqb-true (length t) 4 (and_l (eqb (length t) 4) _ e)))
    (rw (
      plain_byte (nth_byte t 0) (omega (arith, x.0)) (omega (arith, x.1)),
      plain_byte (nth_byte t 1) (omega (arith, point)) (omega (arith, point)),
      plain_byte (nth_byte t 2) (omega (arith, y.0)) (omega (arith, y.1)),
      plain_byte (nth_byte t 3) (omega (arith, z.0)) (omega (arith, z.1)),
    ))

-- a constant likewise
pub constant_raw : (q : Bool) (t : Bytes) → hundredths (meaning q t) ≡ hundredths t
constant_raw q t = raw hundredths spells_constant constant_plain (λ s t a b. constant_no s a ∙ sym (constant_no t b)) q t
