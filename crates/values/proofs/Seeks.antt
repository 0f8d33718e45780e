-- Whether a byte of a class is among some bytes: a turn of a loop that looks at each, on plain values. Assumes nothing.
use Prim.Native.Nat.{ℕ, ◌+◌, ◌≤◌, ◌<◌}
use native.Mathlib.Omega.{arith}
use mathlib.Core.Path.{◌≡◌, refl, sym, ◌∙◌}
use mathlib.Core.Bool.{Bool, true, false, ◌||◌, or_assoc}
use lib.ListN.{length, get_or, drop, drop_of_length-le}
use Rattle.values.specs.Bytes.{Bytes, is, any}
use Rattle.values.proofs.Lists.{here}

-- one is among the bytes where it was found before k, or is among those from k on
pub record Seeking (t : ℕ → Bool) (s : Bytes) (found : Bool) (k : ℕ) : Type 0 where
  pub inside : k ≤ length s
  pub same : any t s ≡ (found || any t (drop k s))

pub sought : (t : ℕ → Bool) (s : Bytes) → Seeking t s false 0
sought t s = record { inside = omega arith; same = refl }

module _ {t : ℕ → Bool} {s : Bytes} {found : Bool} {k : ℕ} (g : Seeking t s found k) (h : k < length s) where
  turn : any t s ≡ (found || (t (get_or s k 0) || any t (drop (k + 1) s)))
  unfolding any
  turn = g.same ∙ rw (here s k)

  -- q is what the code's test of the byte answered
  pub seek_on : {q : Bool} → q ≡ t (get_or s k 0) → Seeking t s (found || q) (k + 1)
  seek_on {q} a = record { inside = omega arith; same = turn ∙ rw (← a) (sym (or_assoc found q _)) }

pub all_seen : {t : ℕ → Bool} {s : Bytes} {found : Bool} {k : ℕ} → Seeking t s found k → length s ≤ k → found ≡ any t s
unfolding any
all_seen {t} {s} {found} g h = sym (g.same ∙ rw (drop_of_length-le s h) (whole found))
  where
    whole : (q : Bool) → (q || false) ≡ q
    whole true = refl
    whole false = refl

-- what answers the needs of such a loop
pub ruleset seeks = (sought, seek_on, all_seen)
