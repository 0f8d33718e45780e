-- ASCII: a turn of `is_ascii`'s loop on plain values, and that ASCII is UTF-8 and so is each part of it. Assumes nothing.
use Prim.Native.Nat.{ℕ, zero, suc, ◌+◌, ◌≤◌, ◌<◌, max}
use native.Mathlib.Decide.{dec_le}
use native.Mathlib.Omega.{arith}
use mathlib.Core.Path.{◌≡◌, refl, sym, ◌∙◌}
use mathlib.Core.Bool.{Bool, true, ◌&&◌}
use mathlib.Core.List.{[], ◌∷◌}
use lib.Dec.{ltb}
use lib.ListN.{length, get_or, take, drop, drop_of_length-le}
use borrow.Author.Tests.{ltb-true, lt-ltb}
use Rattle.values.specs.Bytes.{Bytes}
use Rattle.values.specs.Utf8.{completes, is_utf8, is_ascii}
use Rattle.values.proofs.Tests.{pass, fail, test, and_l, and_r, and_off, and_on}
use Rattle.values.proofs.Lists.{here}
use Rattle.values.proofs.Texts.{utf8_ascii}

ascii_first : (b : ℕ) (s : Bytes) → is_ascii (b ∷ s) ≡ true → b < 128
unfolding is_ascii
ascii_first b s e = ltb-true b 128 (and_l (ltb b 128) (is_ascii s) e)

ascii_more : (b : ℕ) (s : Bytes) → is_ascii (b ∷ s) ≡ true → is_ascii s ≡ true
unfolding is_ascii
ascii_more b s e = and_r (ltb b 128) (is_ascii s) e

pub ascii_utf8 : (s : Bytes) → is_ascii s ≡ true → is_utf8 s ≡ true
unfolding completes
ascii_utf8 [] e = refl
ascii_utf8 (b ∷ s) e = utf8_ascii b s (ascii_first b s e) ∙ ascii_utf8 s (ascii_more b s e)

ascii_drop : (k : ℕ) (s : Bytes) → is_ascii s ≡ true → is_ascii (drop k s) ≡ true
ascii_drop zero s e = e
ascii_drop (suc k) [] e = e
ascii_drop (suc k) (b ∷ s) e = ascii_drop k s (ascii_more b s e)

ascii_take : (n : ℕ) (s : Bytes) → is_ascii s ≡ true → is_ascii (take n s) ≡ true
unfolding is_ascii
ascii_take zero s e = refl
ascii_take (suc n) [] e = refl
ascii_take (suc n) (b ∷ s) e = rw (lt-ltb b 128 (ascii_first b s e), ascii_take n s (ascii_more b s e))

-- so is what `&s[a..e]` lends
pub ascii_part : (n k : ℕ) (s : Bytes) → is_ascii s ≡ true → is_ascii (take n (drop k s)) ≡ true
ascii_part n k s e = ascii_take n (drop k s) (ascii_drop k s e)

-- the highest of the bytes before i tells of all of them
pub record Rising (s : Bytes) (highest i : ℕ) : Type 0 where
  pub inside : i ≤ length s
  pub same : is_ascii s ≡ (ltb highest 128 && is_ascii (drop i s))

-- two limits in a row are the higher one
limits_up : (a b : ℕ) (q : Bool) → a < b → (ltb a 128 && (ltb b 128 && q)) ≡ (ltb b 128 && q)
limits_up a b q h = elim (test (ltb b 128)) [
  | pass e ↦ let l = ltb-true b 128 e in rw (lt-ltb a 128 (omega arith))
  | fail e ↦ rw e (and_off (ltb a 128) refl)
]

limits_down : (a b : ℕ) (q : Bool) → b ≤ a → (ltb a 128 && (ltb b 128 && q)) ≡ (ltb a 128 && q)
limits_down a b q h = elim (test (ltb a 128)) [
  | pass e ↦ let l = ltb-true a 128 e in rw (lt-ltb b 128 (omega arith))
  | fail e ↦ rw e
]

pub started : (s : Bytes) → Rising s 0 0
started s = record { inside = omega arith; same = refl }

module _ {s : Bytes} {highest i : ℕ} (g : Rising s highest i) (h : i < length s) where
  abbrev b : ℕ
  b = get_or s i 0

  abbrev t : Bytes
  t = drop (i + 1) s

  turn : is_ascii s ≡ (ltb highest 128 && (ltb b 128 && is_ascii t))
  unfolding is_ascii
  turn = g.same ∙ rw (here s i)

  higher : highest < b → Rising s b (i + 1)
  higher l = record { inside = omega arith; same = turn ∙ limits_up highest b (is_ascii t) l }

  lower : b ≤ highest → Rising s highest (i + 1)
  lower l = record { inside = omega arith; same = turn ∙ limits_down highest b (is_ascii t) l }

  pub risen : {m : ℕ} → m ≡ max highest b → Rising s m (i + 1)
  risen e = elim (dec_le b highest) [
    | yes l ↦ let z : max highest b ≡ highest = omega arith in rw (e, z) (lower l)
    | no n ↦ let z : max highest b ≡ b = omega arith in rw (e, z) (higher (omega arith))
  ]

pub ended : {s : Bytes} {highest i : ℕ} → Rising s highest i → length s ≤ i → ltb highest 128 ≡ is_ascii s
unfolding is_ascii
ended {s} {highest} g h = sym (g.same ∙ rw (drop_of_length-le s h) (and_on (ltb highest 128)))

-- what answers the needs of `is_ascii`
pub ruleset rises = (started, risen, ended)

-- q is what `is_ascii` answered
pub all_ascii : (s : Bytes) {q : Bool} → q ≡ is_ascii s → q ≡ true → true ≡ is_utf8 s
all_ascii s a e = sym (ascii_utf8 s (sym a ∙ e))
