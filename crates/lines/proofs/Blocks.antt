-- Blocks without LF: a turn of each loop on plain values. Assumes nothing.
use Prim.Native.Nat.{ℕ, ◌+◌, ◌-◌, ◌≤◌}
use native.Mathlib.Omega.{arith}
use mathlib.Core.Path.{◌≡◌, refl, sym, ap, ◌∙◌}
use mathlib.Core.Bool.{Bool, false}
use mathlib.Core.List.{[], ◌∷◌, ◌++◌}
use lib.ListN.{length, take, drop, length-append, length-drop, length-take, take-append-drop}
use lib.Seq.{drop-drop}
use Rattle.values.specs.Bytes.{Bytes, LF, is, any, before}
use Rattle.values.proofs.Tests.{or_l, or_r}
use Rattle.values.proofs.Lists.{before_miss}
use Rattle.values.proofs.Scans.{Scanning, started, stop_of}

-- bytes that pass no test stand before the first that does
before_past : (t : ℕ → Bool) (xs ys : Bytes) → any t xs ≡ false → before t (xs ++ ys) ≡ xs ++ before t ys
unfolding any
before_past t [] ys n = refl
before_past t (b ∷ xs) ys n =
    before_miss t b (xs ++ ys) (or_l (t b) (any t xs) n) ∙ ap (b ∷◌) (before_past t xs ys (or_r (t b) (any t xs) n))

-- so a scan may go on after them
past : (t : ℕ → Bool) (s : Bytes) (i n : ℕ) → i + n ≤ length s → any t (take n (drop i s)) ≡ false → stop_of t s i ≡ stop_of t s (i + n)
past t s i n l e =
    let p = ap length (ap (before t) (sym (take-append-drop n (drop i s))) ∙ before_past t (take n (drop i s)) (drop n (drop i s)) e) in
    let q = length-append (take n (drop i s)) (before t (drop n (drop i s))) in
    let d : drop n (drop i s) ≡ drop (i + n) s = drop-drop n i s in
    let m : length (take n (drop i s)) ≡ n = omega (arith, length-take n (drop i s), length-drop i s) in
    rw (p, q, d, m) (omega arith)

module _ {s : Bytes} {start i : ℕ} (g : Scanning (is LF) s start i) where
  pub stops : stop_of (is LF) s i ≡ stop_of (is LF) s start
  stops = sym g.still

  pub skipped : {m : ℕ} → m ≡ length s - i → 8 ≤ m → {q : Bool} → q ≡ any (is LF) (take (i + 8 - i) (drop i s)) → q ≡ false
      → Scanning (is LF) s start (i + 8)
  skipped v w a e =
      let n : i + 8 - i ≡ 8 = omega arith in
      record { still = g.still ∙ past (is LF) s i 8 (omega arith) (rw n at (sym a ∙ e)) }

-- what answers the needs of `skip_blocks`
pub ruleset skips = (started, skipped, stops)
