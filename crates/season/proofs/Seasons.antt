-- Document 02, §1: the sheet of a season is the sums over its headers, in every order and in parts. Assumes nothing.
use Rattle.std.specs.Prelude.{Ok}
use Prim.Native.Nat.{ℕ, ◌≤◌}
use native.Mathlib.Omega.{arith}
use mathlib.Core.Path.{◌≡◌, refl, sym, ap, ap₂, ◌∙◌}
use mathlib.Core.Bool.{Bool, true, false}
use mathlib.Core.List.{List, [], ◌∷◌, ◌++◌, tail}
use lib.ListN.{length, length-replicate}
use Rattle.values.proofs.Tests.{pass, fail, test}
use Rattle.rules.specs.Reading.{Reading, reading}
use Rattle.header.specs.Parsers.{read_into}
use Rattle.season.specs.Sheet.{accepted_entries, tally, sums, passes, added_by, after_adding, Given, tally_in, blank, sheet_of, season, added}
use Rattle.season.specs.Answers.{merge_answer, merged_by, AddMeaning, add_means_by}
use Rattle.season.specs.Claims.{both_by, IsSheet, given_in, Reordered, nothing, also, exchanged, further, Calls, no_call, one_more}
use Rattle.season.proofs.Sums.{sums_length, sums_comm, sums_assoc, sums_zeros, part_passes}
use Rattle.season.proofs.Tallies.{tally_length}

blank_length : length blank ≡ 39
blank_length = length-replicate {0} {A = ℕ} 39 0

tally_long : (x : Given) → length (tally_in x) ≡ 39
tally_long x = let r = reading x.limits x.imposed x.room x.bytes in tally_length r.number (accepted_entries r.number r.entries)

pub sheet_length : (xs : List Given) → length (sheet_of xs) ≡ 39
unfolding sheet_of
sheet_length [] = blank_length
sheet_length (x ∷ xs) = sums_length (tally_in x) (sheet_of xs) (tally_long x ∙ sym (sheet_length xs)) ∙ tally_long x

sum_length : (s : List ℕ) (x : Given) → length s ≡ 39 → length (sums s (tally_in x)) ≡ 39
sum_length s x l = sums_length s (tally_in x) (l ∙ sym (tally_long x)) ∙ l

pub blank_sheet : IsSheet blank
unfolding passes
blank_sheet = record { long = blank_length; within = refl }

-- One header

added_over : (s : List ℕ) (x : Given) (xs : List Given) → passes (sums s (tally_in x)) ≡ true → (added s (x ∷ xs) ≡ added s xs) × (season s (x ∷ xs) ≡ season s xs)
unfolding added season
added_over s x xs e = (rw (e, added), rw (season, e))

added_one : (s : List ℕ) (x : Given) (xs : List Given) → passes (sums s (tally_in x)) ≡ false
    → (added s (x ∷ xs) ≡ x ∷ added (sums s (tally_in x)) xs) × (season s (x ∷ xs) ≡ season (sums s (tally_in x)) xs)
unfolding added season
added_one s x xs e = (rw (e, added), rw (season, e))

-- The sheet is the sums over the headers that were added; one that would overflow a total is not, and changes nothing
pub season_sums : (s : List ℕ) (xs : List Given) → length s ≡ 39 → season s xs ≡ sums s (sheet_of (added s xs))
unfolding season added sheet_of
season_sums s [] l = sym (sums_zeros 39 s l)
season_sums s (x ∷ xs) l = elim (test (passes (sums s (tally_in x)))) [
  | pass e ↦ let a = added_over s x xs e in a.1 ∙ season_sums s xs l ∙ ap (λ (ys : List Given). sums s (sheet_of ys)) (sym a.0)
  | fail e ↦
      let a = added_one s x xs e in
      a.1 ∙ season_sums (sums s (tally_in x)) xs (sum_length s x l) ∙ sums_assoc s (tally_in x) (sheet_of (added (sums s (tally_in x)) xs))
      ∙ ap (λ (ys : List Given). sums s (sheet_of ys)) (sym a.0)
]

blank_first : (xs : List Given) → sums blank (sheet_of xs) ≡ sheet_of xs
blank_first xs = sums_comm blank (sheet_of xs) ∙ sums_zeros 39 (sheet_of xs) (sheet_length xs)

pub sheet_is_sums : (xs : List Given) → season blank xs ≡ sheet_of (added blank xs)
sheet_is_sums xs = season_sums blank xs blank_length ∙ blank_first (added blank xs)

-- All of them are added exactly when no total of the sums overflows

added_fewer : (s : List ℕ) (xs : List Given) → length (added s xs) ≤ length xs
unfolding added
added_fewer s [] = omega arith
added_fewer s (x ∷ xs) = elim (test (passes (sums s (tally_in x)))) [
  | pass e ↦ rw (added_over s x xs e).0 (omega (arith, added_fewer s xs))
  | fail e ↦ rw (added_one s x xs e).0 (omega (arith, added_fewer (sums s (tally_in x)) xs))
]

pub added_fits : (s : List ℕ) (xs : List Given) → IsSheet s → added s xs ≡ xs → passes (sums s (sheet_of xs)) ≡ false
unfolding added sheet_of
added_fits s [] i f = ap passes (sums_zeros 39 s i.long) ∙ i.within
added_fits s (x ∷ xs) i f = elim (test (passes (sums s (tally_in x)))) [
  | pass e ↦ let n = ap length (sym (added_over s x xs e).0 ∙ f) in absurd (omega (arith, n, added_fewer s xs))
  | fail e ↦ ap passes (sym (sums_assoc s (tally_in x) (sheet_of xs)))
      ∙ added_fits (sums s (tally_in x)) xs (record { long = sum_length s x i.long; within = e }) (ap tail (sym (added_one s x xs e).0 ∙ f))
]

pub fits_added : (s : List ℕ) (xs : List Given) → length s ≡ 39 → passes (sums s (sheet_of xs)) ≡ false → added s xs ≡ xs
unfolding added sheet_of
fits_added s [] l f = refl
fits_added s (x ∷ xs) l f =
    let g : passes (sums (sums s (tally_in x)) (sheet_of xs)) ≡ false = ap passes (sums_assoc s (tally_in x) (sheet_of xs)) ∙ f in
    let k = sum_length s x l in
    (added_one s x xs (part_passes (sums s (tally_in x)) (sheet_of xs) (k ∙ sym (sheet_length xs)) g)).0 ∙ ap (x ∷◌) (fits_added (sums s (tally_in x)) xs k g)

-- Every order

sheet_order : {xs ys : List Given} → Reordered xs ys → sheet_of xs ≡ sheet_of ys
unfolding sheet_of
sheet_order nothing = refl
sheet_order (also x o) = ap (sums (tally_in x)) (sheet_order o)
sheet_order (exchanged x y xs) =
    sym (sums_assoc (tally_in x) (tally_in y) (sheet_of xs)) ∙ ap (λ (n : List ℕ). sums n (sheet_of xs)) (sums_comm (tally_in x) (tally_in y)) ∙ sums_assoc (tally_in y) (tally_in x) (sheet_of xs)
sheet_order (further o p) = sheet_order o ∙ sheet_order p

-- headers that are added without a 30 are so in every order, and the sheet is the same
pub any_order : (s : List ℕ) {xs ys : List Given} → IsSheet s → Reordered xs ys → added s xs ≡ xs → (added s ys ≡ ys) × (season s ys ≡ season s xs)
any_order s {xs} {ys} i o f =
    let e = sheet_order o in
    let g = fits_added s ys i.long (ap (λ (n : List ℕ). passes (sums s n)) (sym e) ∙ added_fits s xs i f) in
    (g, season_sums s ys i.long ∙ ap (λ (zs : List Given). sums s (sheet_of zs)) g ∙ ap (sums s) (sym e) ∙ ap (λ (zs : List Given). sums s (sheet_of zs)) (sym f) ∙ sym (season_sums s xs i.long))

-- In parts

pub sheet_append : (xs ys : List Given) → sums (sheet_of xs) (sheet_of ys) ≡ sheet_of (xs ++ ys)
unfolding sheet_of
sheet_append [] ys = blank_first ys
sheet_append (x ∷ xs) ys = sums_assoc (tally_in x) (sheet_of xs) (sheet_of ys) ∙ ap (sums (tally_in x)) (sheet_append xs ys)

-- the merge of two sheets is the sheet of both lists
pub merge_both : (xs ys : List Given) → merge_answer (sheet_of xs) (sheet_of ys) ≡ both_by (passes (sheet_of (xs ++ ys))) xs ys
merge_both xs ys = by (passes (sums (sheet_of xs) (sheet_of ys))) ∙ ap (λ (n : List ℕ). both_by (passes n) xs ys) (sheet_append xs ys)
  where
    by : (q : Bool) → merged_by q (sheet_of xs) (sheet_of ys) ≡ both_by q xs ys
    by true = refl
    by false = ap (λ (n : List ℕ). record { outcome = (Ok tt); sheet = n }) (sheet_append xs ys)

-- a season that is added without a 30 may be counted in two parts, and these merged
pub parts_season : (xs ys : List Given) → added blank (xs ++ ys) ≡ xs ++ ys → merge_answer (season blank xs) (season blank ys) ≡ record { outcome = (Ok tt); sheet = season blank (xs ++ ys) }
parts_season xs ys f =
    let z : passes (sheet_of (xs ++ ys)) ≡ false = ap passes (sym (blank_first (xs ++ ys))) ∙ added_fits blank (xs ++ ys) blank_sheet f in
    let n : passes (sums (sheet_of xs) (sheet_of ys)) ≡ false = ap passes (sheet_append xs ys) ∙ z in
    let same = sheet_length xs ∙ sym (sheet_length ys) in
    let a = whole xs (part_passes (sheet_of xs) (sheet_of ys) same n) in
    let b = whole ys (part_passes (sheet_of ys) (sheet_of xs) (sym same) (ap passes (sums_comm (sheet_of ys) (sheet_of xs)) ∙ n)) in
    ap₂ merge_answer a b ∙ merge_both xs ys ∙ ap (λ (q : Bool). both_by q xs ys) z ∙ ap (λ (s : List ℕ). record { outcome = (Ok tt); sheet = s }) (sym (whole (xs ++ ys) z))
  where
    whole : (zs : List Given) → passes (sheet_of zs) ≡ false → season blank zs ≡ sheet_of zs
    whole zs q = sheet_is_sums zs ∙ ap sheet_of (fits_added blank zs blank_length (ap passes (blank_first zs) ∙ q))

-- The calls

season_append : (s : List ℕ) (xs ys : List Given) → season s (xs ++ ys) ≡ season (season s xs) ys
unfolding season
season_append s [] ys = refl
season_append s (x ∷ xs) ys = season_append (after_adding s (tally_in x)) xs ys

sheet_after : (over : Bool) (s : List ℕ) (r : Reading) → (add_means_by over s r).sheet ≡ added_by over s (tally r)
sheet_after true s r = refl
sheet_after false s r = refl

-- after calls of `add` the sheet is that of the season
pub calls_season : {s s' : List ℕ} {xs : List Given} → Calls s xs s' → s' ≡ season s xs
unfolding season
calls_season no_call = refl
calls_season {s} (one_more {xs} {s₁} cs {form} {imposed} {h} {t} c) =
    let r = read_into form imposed t h in
    ap (λ (m : AddMeaning). m.sheet) c.answer ∙ sheet_after (passes (sums s₁ (tally r))) s₁ r ∙ ap (λ (n : List ℕ). after_adding n (tally r)) (calls_season cs)
    ∙ sym (season_append s xs (given_in form imposed h t ∷ []))
