-- Two sheets as one, a turn of the loop on plain values. Assumes nothing.
use Rattle.std.specs.Prelude.{Option, Some, None, Ok, Err}
use Prim.Native.Nat.{ℕ, suc, ◌+◌, ◌≤◌, ◌<◌}
use native.Mathlib.Omega.{arith}
use mathlib.Core.Path.{◌≡◌, refl, sym, ap, ap₂, ◌∙◌}
use mathlib.Core.Bool.{Bool, false, ◌||◌}
use mathlib.Core.List.{List, ◌∷◌, ◌++◌, append-nil}
use lib.Dec.{ltb}
use lib.ListN.{length, get_or, set, length-set, drop, replicate, length-replicate}
use lib.Seq.{sets, sets-eq}
use Rattle.values.proofs.Tests.{pass, fail, test, never}
use Rattle.values.proofs.Lists.{here, drop_past}
use Rattle.season.specs.Sheet.{sums, passes}
use Rattle.season.specs.Answers.{total_by, total_of, merge_answer, merged_by}
use Rattle.season.specs.declared.merge.MergeAnswer.{MergeAnswer}
use Rattle.season.specs.declared.merge.SeasonRefusal.TheVariants.{TotalTooLarge}
use Rattle.season.proofs.Sums.{sums_length}

-- no total before place i passes, and the sums up to there are written
pub record Merging (s n xs : List ℕ) (i : ℕ) : Type 0 where
  pub long : length s ≡ 39
  pub long_too : length n ≡ 39
  pub size : length xs ≡ 39
  pub within : i ≤ 39
  pub passing : passes (sums s n) ≡ passes (sums (drop i s) (drop i n))
  pub whole : sets xs i (sums (drop i s) (drop i n)) ≡ sums s n

pub merge_start : {s n : List ℕ} → length s ≡ 39 → length n ≡ 39 → Merging s n (replicate 39 0) 0
merge_start {s} {n} l m =
    let k : length (sums s n) ≡ 39 = sums_length s n (l ∙ sym m) ∙ l in
    record {
      long = l;
      long_too = m;
      size = length-replicate {0} {A = ℕ} 39 0;
      within = omega arith;
      passing = refl;
      whole = sets-eq (sums s n) (replicate 39 0) 0 (omega (arith, k, length-replicate {0} {A = ℕ} 39 0)) ∙ ap (sums s n ++◌) (drop_past (replicate 39 0) (0 + length (sums s n)) (omega (arith, k, length-replicate {0} {A = ℕ} 39 0))) ∙ append-nil (sums s n);
    }

module _ {s n xs : List ℕ} {i : ℕ} (g : Merging s n xs i) where
  module _ (l : i < 39) where
    abbrev a : ℕ
    a = get_or s i 0

    abbrev b : ℕ
    b = get_or n i 0

    pairs : sums (drop i s) (drop i n) ≡ (a + b) ∷ sums (drop (i + 1) s) (drop (i + 1) n)
    unfolding sums
    pairs = ap₂ sums (here s i (omega (arith, g.long))) (here n i (omega (arith, g.long_too)))

    here_passes : {q : Bool} → ltb 18446744073709551615 (a + b) ≡ q → passes (sums s n) ≡ q || passes (sums (drop (i + 1) s) (drop (i + 1) n))
    unfolding passes
    here_passes e = g.passing ∙ ap passes pairs ∙ ap (◌|| passes (sums (drop (i + 1) s) (drop (i + 1) n))) e

    module _ (r : Option ℕ) (e : r ≡ total_of a b) where
      pub merge_over : r ≡ None → ◌≡◌ {A = MergeAnswer} (record { outcome = (Err TotalTooLarge); sheet = s }) (merge_answer s n)
      merge_over f = elim (test (ltb 18446744073709551615 (a + b))) [
        | pass q ↦ sym (ap (λ (x : Bool). merged_by x s n) (here_passes q))
        | fail q ↦ let z : None ≡ Some (a + b) = sym f ∙ e ∙ ap (λ (x : Bool). total_by x (a + b)) q in never cc
      ]

      module _ {m : ℕ} (f : r ≡ Some m) where
        sum_is : (m ≡ a + b) × (ltb 18446744073709551615 (a + b) ≡ false)
        sum_is = elim (test (ltb 18446744073709551615 (a + b))) [
          | pass q ↦ let z : Some m ≡ None = sym f ∙ e ∙ ap (λ (x : Bool). total_by x (a + b)) q in never cc
          | fail q ↦ let z : Some m ≡ Some (a + b) = sym f ∙ e ∙ ap (λ (x : Bool). total_by x (a + b)) q in (cc, q)
        ]

        pub merge_more : Merging s n (set xs i m) (i + 1)
        merge_more = let k : i + 1 ≡ suc i = omega arith in record {
          long = g.long;
          long_too = g.long_too;
          size = length-set xs i m ∙ g.size;
          within = omega arith;
          passing = here_passes sum_is.1;
          whole = ap (λ (j : ℕ). sets (set xs i m) j (sums (drop (i + 1) s) (drop (i + 1) n))) k ∙ ap (λ (x : ℕ). sets xs i (x ∷ sums (drop (i + 1) s) (drop (i + 1) n))) sum_is.0 ∙ sym (ap (sets xs i) pairs) ∙ g.whole;
        }

  pub merge_end : 39 ≤ i → ◌≡◌ {A = MergeAnswer} (record { outcome = (Ok tt); sheet = xs }) (merge_answer s n)
  unfolding sums passes
  merge_end l =
      let d = drop_past s i (omega (arith, g.long)) in
      let p : passes (sums s n) ≡ false = g.passing ∙ rw d in
      let w : xs ≡ sums s n = rw d at g.whole in
      rw (p, w)

pub ruleset merges = (merge_start, merge_over, merge_more, merge_end)
