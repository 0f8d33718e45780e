-- Scans to the first byte of a class, a turn of each on plain values. Assumes nothing.
use Prim.Native.Nat.{ℕ, ◌+◌, ◌≤◌, ◌<◌}
use native.Mathlib.Omega.{arith}
use mathlib.Core.Path.{◌≡◌, refl, sym, ◌∙◌}
use mathlib.Core.Bool.{Bool, true, false}
use lib.Dec.{eqb}
use lib.ListN.{length, get_or, drop, drop_of_length-le}
use borrow.Author.Tests.{ne_eqb}
use Rattle.values.specs.Bytes.{Bytes, before}
use Rattle.values.specs.Field.{ends_key}
use Rattle.values.proofs.Lists.{here, before_hit, before_miss}

-- where the first byte of s from start on stands that passes the test t, or the end
abbrev pub stop_of : (ℕ → Bool) → Bytes → ℕ → ℕ
stop_of t s start = start + length (before t (drop start s))

pub record Scanning (t : ℕ → Bool) (s : Bytes) (start i : ℕ) : Type 0 where
  pub still : stop_of t s start ≡ stop_of t s i

pub started : (t : ℕ → Bool) (s : Bytes) (start : ℕ) → Scanning t s start start
started t s start = record { still = refl }

module _ {t : ℕ → Bool} {s : Bytes} {start i : ℕ} (g : Scanning t s start i) where
  stops : i < length s → t (get_or s i 0) ≡ true → i ≡ stop_of t s start
  stops h e = sym (g.still ∙ rw (here s i, before_hit t (get_or s i 0) (drop (i + 1) s) e) (omega arith))

  goes : i < length s → t (get_or s i 0) ≡ false → Scanning t s start (i + 1)
  goes h e = record { still = g.still ∙ rw (here s i, before_miss t (get_or s i 0) (drop (i + 1) s) e) (omega arith) }

  pub ended : length s ≤ i → i ≡ stop_of t s start
  unfolding before
  ended h = sym (g.still ∙ rw (drop_of_length-le s h) (omega arith))

  -- q is what the code's test of the byte answered
  pub hit : i < length s → {q : Bool} → q ≡ t (get_or s i 0) → q ≡ true → i ≡ stop_of t s start
  hit h a e = stops h (sym a ∙ e)

  pub miss : i < length s → {q : Bool} → q ≡ t (get_or s i 0) → q ≡ false → Scanning t s start (i + 1)
  miss h a e = goes h (sym a ∙ e)

-- what answers the needs of a scan by a class
pub ruleset turns = (started, hit, miss, ended)

-- a byte that ends a key, where it is none of the first four
pub last_key_byte : (b : ℕ) → (b ≡ 61 → ⊥) → (b ≡ 44 → ⊥) → (b ≡ 60 → ⊥) → (b ≡ 62 → ⊥) → eqb b 34 ≡ ends_key b
last_key_byte b p q r t = simp (ne_eqb b 61 p, ne_eqb b 44 q, ne_eqb b 60 r, ne_eqb b 62 t)
