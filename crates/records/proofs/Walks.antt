-- Fields one after the other: their checks, their texts and their scan. Assumes nothing.
use Prim.Native.Nat.{ℕ, zero, suc, ◌+◌, ◌≤◌}
use native.Mathlib.Omega.{arith}
use mathlib.Core.Path.{◌≡◌, refl, sym, ap, ◌∙◌}
use mathlib.Core.Bool.{Bool, true, false, not, ◌||◌}
use mathlib.Core.List.{List, [], ◌∷◌, ◌++◌}
use Rattle.std.specs.Prelude.{Option, None, Some}
use lib.ListN.{length, drop}
use Rattle.values.specs.Bytes.{Bytes, same}
use Rattle.values.specs.Value.{meaning_of}
use Rattle.values.specs.Field.{Field, written_field}
use Rattle.values.proofs.Tests.{pass, fail, test}
use Rattle.rules.specs.Answer.{unless, first}
use Rattle.rules.specs.Version.{Version}
use Rattle.rules.specs.Known.{is_in, kind_of, name_of}
use Rattle.rules.specs.Map.{is_some, known_named, value_refusal, check_fields, more, after, scan}
use Rattle.rules.proofs.Scans.{scan_more}
use Rattle.rules.specs.Entry.{text_named}
use Rattle.records.specs.Maps.{FieldThen, FieldsFrom, names_of, scanned_from}

-- The first refusal

pub first_zero_left : (ns : List ℕ) → first (0 ∷ ns) ≡ first ns
unfolding first
first_zero_left ns = refl

pub first_suc : (m : ℕ) (ns : List ℕ) → first (suc m ∷ ns) ≡ suc m
unfolding first
first_suc m ns = refl

pub first_alone : (n : ℕ) → first (n ∷ []) ≡ n
unfolding first
first_alone zero = refl
first_alone (suc n) = refl

first_three : (a b c d : ℕ) → first (a ∷ b ∷ first (c ∷ d ∷ []) ∷ []) ≡ first (first (a ∷ b ∷ c ∷ []) ∷ d ∷ [])
unfolding first
first_three (suc a) b c d = refl
first_three zero (suc b) c d = refl
first_three zero zero (suc c) d = refl
first_three zero zero zero zero = refl
first_three zero zero zero (suc d) = refl

-- the names that were seen, after these fields
abbrev seen_after : Version → Bytes → List Bytes → List Field → List Bytes
seen_after v k seen [] = seen
seen_after v k seen (f ∷ fs) = seen_after v k (name_of v k f.key ∷ seen) fs

check_append : (v : Version) (k : Bytes) (seen : List Bytes) (xs ys : List Field)
    → check_fields v k seen (xs ++ ys) ≡ first (check_fields v k seen xs ∷ check_fields v k (seen_after v k seen xs) ys ∷ [])
unfolding check_fields
check_append v k seen [] ys = sym (first_zero_left (check_fields v k seen ys ∷ []) ∙ first_alone (check_fields v k seen ys))
check_append v k seen (x ∷ xs) ys =
    rw (check_append v k (name_of v k x.key ∷ seen) xs ys)
    (first_three (value_refusal v (kind_of k) (meaning_of x.value) (known_named v k x.key)) (unless (not (is_in (name_of v k x.key) seen)) 10)
    (check_fields v k (name_of v k x.key ∷ seen) xs) (check_fields v k (seen_after v k (name_of v k x.key ∷ seen) xs) ys))

seen_in_lem : (v : Version) (k x : Bytes) (seen : List Bytes) (fs : List Field) → is_in x (seen_after v k seen fs) ≡ (is_in x seen || is_in x (names_of v k fs))
unfolding is_in
seen_in_lem v k x seen [] = sym (or-false (is_in x seen))
  where
    or-false : (b : Bool) → b || false ≡ b
    or-false true = refl
    or-false false = refl
seen_in_lem v k x seen (f ∷ fs) = seen_in_lem v k x (name_of v k f.key ∷ seen) fs ∙ swap (same (name_of v k f.key) x) (is_in x seen) (is_in x (names_of v k fs))
  where
    swap : (a b c : Bool) → (a || b) || c ≡ b || (a || c)
    swap true true c = refl
    swap true false c = refl
    swap false b c = refl

-- one field after fields that passed
module _ (v : Version) (k : Bytes) (before : List Field) (fine : check_fields v k [] before ≡ 0) (f : Field) where
  passed : (ys : List Field) → check_fields v k [] (before ++ f ∷ ys)
      ≡ first (value_refusal v (kind_of k) (meaning_of f.value) (known_named v k f.key) ∷ unless (not (is_in (name_of v k f.key) (names_of v k before))) 10
      ∷ check_fields v k (name_of v k f.key ∷ seen_after v k [] before) ys ∷ [])
  unfolding check_fields is_in
  passed ys =
      check_append v k [] before (f ∷ ys)
      ∙ rw (
        fine,
        first_zero_left (check_fields v k (seen_after v k [] before) (f ∷ ys) ∷ []),
        first_alone (check_fields v k (seen_after v k [] before) (f ∷ ys)),
        check_fields,
        seen_in_lem v k (name_of v k f.key) [] before,
      )

  pub value_refused : {m : ℕ} → value_refusal v (kind_of k) (meaning_of f.value) (known_named v k f.key) ≡ suc m → (ys : List Field) → check_fields v k [] (before ++ f ∷ ys) ≡ suc m
  value_refused e ys = passed ys ∙ rw (e, first_suc)

  module _ (e : value_refusal v (kind_of k) (meaning_of f.value) (known_named v k f.key) ≡ 0) where
    pub name_refused : is_in (name_of v k f.key) (names_of v k before) ≡ true → (ys : List Field) → check_fields v k [] (before ++ f ∷ ys) ≡ 10
    unfolding first
    name_refused i ys = passed ys ∙ rw (e, i)

    pub field_fine : is_in (name_of v k f.key) (names_of v k before) ≡ false → check_fields v k [] (before ++ f ∷ []) ≡ 0
    unfolding first check_fields
    field_fine i = passed [] ∙ rw (e, i)

-- Texts

abbrev pub or_else : {A : Type 0} → Option A → Option A → Option A
or_else None y = y
or_else (Some x) y = Some x

pub text_snoc : (v : Version) (k name : Bytes) (m : Bool) (s : Bytes) (start : ℕ) (before : List Field) (at : ℕ) (f : Field) → FieldsFrom m s start before at
    → text_named v k name start (before ++ f ∷ []) ≡ or_else (text_named v k name start before) (text_named v k name at (f ∷ []))
unfolding text_named
text_snoc v k name m s start [] at f w = ap (λ (i : ℕ). text_named v k name i (f ∷ [])) w
text_snoc v k name m s start (g ∷ gs) at f w = elim (test (same (name_of v k g.key) name)) [
  | pass e ↦ rw (text_named, e)
  | fail e ↦ rw (text_named, e) (text_snoc v k name m s (start + length (written_field g) + 1) gs at f w.1)
]

pub text_in : (v : Version) (k name : Bytes) (start : ℕ) (fs : List Field) → is_some (text_named v k name start fs) ≡ is_in name (names_of v k fs)
unfolding text_named is_in
text_in v k name start [] = refl
text_in v k name start (f ∷ fs) = elim (test (same (name_of v k f.key) name)) [
  | pass e ↦ rw (text_named, e)
  | fail e ↦ rw (text_named, e) (text_in v k name (start + length (written_field f) + 1) fs)
]

-- The scan

-- fields that were read stand first in the scan
pub walk_scan : (m : Bool) (s : Bytes) (start : ℕ) (before : List Field) (at fuel : ℕ) → FieldsFrom m s start before at → length (drop start s) ≤ fuel
    → (n : ℕ) × (length (drop at s) ≤ n) × (scan fuel m (drop start s) ≡ scanned_from m s before at n)
unfolding after
walk_scan m s start [] at fuel w h = rw (← w) (fuel, h, refl)
walk_scan m s start (f ∷ fs) at fuel w h =
    let t = drop (start + length (written_field f) + 1) s in
    let x = scan_more m (drop start s) w.0 fuel h (comma t) in
    let y = walk_scan m s (start + length (written_field f) + 1) fs at x.0 w.1 x.1 in
    (y.0, y.1, x.2 ∙ rw y.2)
  where
    comma : (t : Bytes) → after (44 ∷ t) ≡ more t
    comma t = refl

-- fields stand one after the other, so that there are no more than bytes
pub few_fields : (m : Bool) (s : Bytes) (at : ℕ) (fs : List Field) (upto : ℕ) → FieldsFrom m s at fs upto → at + length fs ≤ upto
few_fields m s at [] upto h = omega (arith, h)
few_fields m s at (f ∷ fs) upto h = let d = few_fields m s (at + length (written_field f) + 1) fs upto h.1 in omega (arith, d)

pub fields_snoc : (m : Bool) (s : Bytes) (start : ℕ) (before : List Field) (at : ℕ) (f : Field) → FieldsFrom m s start before at → FieldThen m s at f
    → FieldsFrom m s start (before ++ f ∷ []) (at + length (written_field f) + 1)
fields_snoc m s start [] at f w h = rw w (h, refl)
fields_snoc m s start (g ∷ gs) at f w h = (w.0, fields_snoc m s (start + length (written_field g) + 1) gs at f w.1 h)
