-- UTF-8 by parts: what the functions of `utf8` answer, and a turn of each loop, on plain values. Assumes nothing.
use Prim.Native.Nat.{ℕ, zero, suc, ◌+◌, ◌-◌, ◌≤◌, ◌<◌}
use native.Mathlib.Omega.{arith}
use mathlib.Core.Path.{◌≡◌, refl, sym, ap, ◌∙◌}
use mathlib.Core.Bool.{Bool, true, false, not, ◌&&◌, ◌||◌, and_assoc}
use mathlib.Core.List.{[], ◌∷◌, ◌++◌}
use lib.Dec.{ltb}
use lib.ListN.{length, get_or, take, drop, replicate, length-drop, length-take, drop_of_length-le, take-append-drop}
use lib.Seq.{drop-drop, get_or-take, get_or-drop}
use borrow.Author.Tests.{le-ltb, lt-ltb, ltb-true, ltb-false}
use Rattle.values.specs.Bytes.{Bytes}
use Rattle.values.specs.Utf8.{tail, within, is_utf8, is_ascii}
use Rattle.values.specs.Fitting.{is_due, is_barred, goes_on, is_first, fits, all_fit, byte_before, part_fits, is_cut}
use Rattle.values.proofs.Tests.{Test, pass, fail, test, not_true, not_false, and_l, and_r, and_on}
use Rattle.values.proofs.Lists.{here, rest}
use Rattle.values.proofs.Fitting.{utf8_fits, ascii_fit}
use Rattle.values.proofs.Ascii.{all_ascii}

-- what answers the needs of `goes_on` and `fits`
pub goes_by : (nearest b : ℕ) {q : Bool} → q ≡ is_barred nearest b → (within tail b && not q) ≡ goes_on nearest b
goes_by nearest b e = rw e

pub fits_by : (third second nearest b : ℕ) {d g f : Bool} → d ≡ is_due third second nearest → g ≡ goes_on nearest b → f ≡ is_first b
    → ((d && g) || (not d && f)) ≡ fits third second nearest b
fits_by third second nearest b e h k = rw (e, h, k)

-- the bytes before i were looked at, and the rest is left
pub record Walking (a b c : ℕ) (s : Bytes) (third second nearest : ℕ) (fit : Bool) (i : ℕ) : Type 0 where
  pub inside : i ≤ length s
  pub same : all_fit a b c s ≡ (fit && all_fit third second nearest (drop i s))

pub set_out : (a b c : ℕ) (s : Bytes) → Walking a b c s a b c true 0
set_out a b c s = record { inside = omega arith; same = refl }

pub one_on : {a b c : ℕ} {s : Bytes} {third second nearest : ℕ} {fit : Bool} {i : ℕ} → Walking a b c s third second nearest fit i → i < length s
    → {q : Bool} → q ≡ fits third second nearest (get_or s i 0) → Walking a b c s second nearest (get_or s i 0) (fit && q) (i + 1)
unfolding all_fit
one_on {s = s} {fit = fit} {i} g h {q} e = record { inside = omega arith; same = g.same ∙ rw (here s i h, ← e) (sym (and_assoc fit q _)) }

pub arrived : {a b c : ℕ} {s : Bytes} {third second nearest : ℕ} {fit : Bool} {i : ℕ} → Walking a b c s third second nearest fit i → length s ≤ i
    → fit ≡ all_fit a b c s
unfolding all_fit
arrived {s = s} {fit = fit} g h = sym (g.same ∙ rw (drop_of_length-le s h) (and_on fit))

-- what answers the needs of `all_fit`
pub ruleset walks = (set_out, one_on, arrived)

-- what was seen of the bytes is carried on in the last three of them
all_append : (a b c : ℕ) (s t : Bytes)
    → all_fit a b c (s ++ t) ≡ (all_fit a b c s && all_fit (get_or (a ∷ b ∷ c ∷ s) (length s) 0) (get_or (b ∷ c ∷ s) (length s) 0) (get_or (c ∷ s) (length s) 0) t)
unfolding all_fit
all_append a b c [] t = refl
all_append a b c (x ∷ s) t = rw (all_append b c x s t) (sym (and_assoc (fits a b c x) (all_fit b c x s) _))

pub none_before : (s : Bytes) (i k : ℕ) → i < k → byte_before s i k ≡ 0
unfolding byte_before
none_before s i k h = rw (lt-ltb i k h, byte_before)

pub some_before : (s : Bytes) (i k : ℕ) → k ≤ i → byte_before s i k ≡ get_or s (i - k) 0
unfolding byte_before
some_before s i k h = rw (le-ltb i k h, byte_before)

-- a byte k places before is at the same place behind k zeros
padded : (k i : ℕ) (s : Bytes) → byte_before s i k ≡ get_or (replicate k 0 ++ s) i 0
padded zero i s = let e : i - 0 ≡ i = omega arith in some_before s i 0 (omega arith) ∙ rw e
padded (suc k) zero s = none_before s 0 (suc k) (omega arith)
padded (suc k) (suc i) s = step (test (ltb i k)) ∙ padded k i s
  where
    step : Test (ltb i k) → byte_before s (suc i) (suc k) ≡ byte_before s i k
    step (pass e) = let l = ltb-true i k e in none_before s (suc i) (suc k) (omega arith) ∙ sym (none_before s i k l)
    step (fail e) =
        let l = ltb-false i k e in
        let n : suc i - suc k ≡ i - k = omega arith in
        some_before s (suc i) (suc k) (omega arith) ∙ rw n (sym (some_before s i k l))

utf8_parts : (s : Bytes) → is_utf8 s ≡ (part_fits s 0 (length s) && not (is_cut s))
unfolding part_fits is_cut
utf8_parts s =
    utf8_fits s
    ∙ rw (padded 3 (length s) s, padded 2 (length s) s, padded 1 (length s) s, none_before s 0 3 (omega arith), none_before s 0 2 (omega arith), none_before s 0 1 (omega arith), rest s 0)

near : (s : Bytes) (i k : ℕ) → 1 ≤ k → k ≤ 32 → byte_before s (i + 32) k ≡ get_or (take 32 (drop i s)) (32 - k) 0
near s i k l h =
    let e : i + 32 - k ≡ i + (32 - k) = omega arith in
    some_before s (i + 32) k (omega arith) ∙ rw (e, get_or-take 32 (drop i s) (32 - k) 0 (omega arith), get_or-drop i s (32 - k) 0)

part_split : (s : Bytes) (i : ℕ) → i + 32 ≤ length s → part_fits s i (length s) ≡ (part_fits s i (i + 32) && part_fits s (i + 32) (length s))
unfolding part_fits
part_split s i h =
    let n : i + 32 - i ≡ 32 = omega arith in
    let m : length (take 32 (drop i s)) ≡ 32 = omega (arith, length-take 32 (drop i s), length-drop i s) in
    let e : drop i s ≡ take 32 (drop i s) ++ drop (i + 32) s = rw (← (drop-drop 32 i s)) (sym (take-append-drop 32 (drop i s))) in
    let a = byte_before s i 3 in
    let b = byte_before s i 2 in
    let c = byte_before s i 1 in
    ap (all_fit a b c) (rest s i ∙ e)
    ∙ all_append a b c (take 32 (drop i s)) (drop (i + 32) s)
    ∙ rw (m, n, rest s (i + 32), near s i 3 (omega arith) (omega arith), near s i 2 (omega arith) (omega arith), near s i 1 (omega arith) (omega arith))

-- what answers the needs of `byte_before`
module _ (s : Bytes) (i k : ℕ) where
  pub before_start : i < k → 0 ≡ byte_before s i k
  before_start h = sym (none_before s i k h)

  pub before_there : k ≤ i → get_or s (i - k) 0 ≡ byte_before s i k
  before_there h = sym (some_before s i k h)

pub ruleset befores = (before_start, before_there)

pub cut_by : (s : Bytes) {a b c : ℕ} {q : Bool} → a ≡ byte_before s (length s) 3 → b ≡ byte_before s (length s) 2 → c ≡ byte_before s (length s) 1
    → q ≡ is_due a b c → q ≡ is_cut s
unfolding is_cut
cut_by s e f g d = d ∙ rw (e, f, g)

-- what answers the needs of `part_fits`
module _ (s : Bytes) (from to : ℕ) {a b c : ℕ} (e : a ≡ byte_before s from 3) (f : b ≡ byte_before s from 2) (g : c ≡ byte_before s from 1) where
  pub part_walked : {q : Bool} → q ≡ all_fit a b c (take (to - from) (drop from s)) → q ≡ part_fits s from to
  unfolding part_fits
  part_walked d = d ∙ rw (e, f, g)

  pub part_passed : {d q : Bool} → d ≡ is_due a b c → q ≡ is_ascii (take (to - from) (drop from s)) → (not d && q) ≡ true → true ≡ part_fits s from to
  part_passed {d} {q} i k t =
      part_walked (sym (ascii_fit a b c _ (sym i ∙ not_true d (and_l (not d) q t)) (sym k ∙ and_r (not d) q t)))

pub ruleset parts = (part_walked, part_passed)

-- the parts before i fit: the rest is left, and the end
pub record Blocks (s : Bytes) (i : ℕ) : Type 0 where
  pub inside : i ≤ length s
  pub same : is_utf8 s ≡ (part_fits s i (length s) && not (is_cut s))

pub at_start : (s : Bytes) → Blocks s 0
at_start s = record { inside = omega arith; same = utf8_parts s }

module _ {s : Bytes} {i : ℕ} (g : Blocks s i) where
  split : 32 ≤ length s - i → is_utf8 s ≡ ((part_fits s i (i + 32) && part_fits s (i + 32) (length s)) && not (is_cut s))
  split w = g.same ∙ rw (part_split s i (omega arith))

  pub block_bad : 32 ≤ length s - i → {q : Bool} → q ≡ part_fits s i (i + 32) → not q ≡ true → false ≡ is_utf8 s
  block_bad w {q} e n = sym (split w ∙ rw (← e, not_true q n))

  pub block_on : 32 ≤ length s - i → {q : Bool} → q ≡ part_fits s i (i + 32) → not q ≡ false → Blocks s (i + 32)
  block_on w {q} e n = record { inside = omega arith; same = split w ∙ rw (← e, not_false q n) }

  pub at_end_lem : {q d : Bool} → q ≡ part_fits s i (length s) → d ≡ is_cut s → (q && not d) ≡ is_utf8 s
  at_end_lem e d = sym (g.same ∙ rw (← e, ← d))

-- what answers the needs of `utf8`
pub ruleset blocks = (all_ascii, at_start, block_bad, block_on, at_end_lem)
