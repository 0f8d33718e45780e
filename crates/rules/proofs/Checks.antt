-- A map's checks, one by one: every field passes and every name is fresh; the field of a name. Assumes nothing.
use mathlib.Core.Path.{◌≡◌, refl}
use mathlib.Core.Bool.{true, false, not}
use mathlib.Core.List.{List, [], ◌∷◌, map}
use Rattle.std.specs.Prelude.{Some}
use Rattle.values.specs.Bytes.{Bytes, same}
use Rattle.values.specs.Value.{meaning_of}
use Rattle.values.specs.Field.{Field}
use Rattle.values.proofs.Tests.{pass, fail, test, not_true}
use Rattle.values.proofs.Lists.{OnSome}
use Rattle.rules.specs.Answer.{unless}
use Rattle.rules.specs.Version.{Version}
use Rattle.rules.specs.Known.{kind_of, is_in, name_of}
use Rattle.rules.specs.Map.{Scan, value_refusal, known_named, check_fields, field_named, missing, misdeclared, map_refusal}
use Rattle.rules.proofs.Firsts.{first_zero, zero_first, first_nil, zero_unless}
use Rattle.values.proofs.Sames.{same_sound}
use Rattle.rules.proofs.Names.{Fresh}
use Rattle.rules.specs.Claims.{All}

abbrev pub names_of : Version → Bytes → List Field → List Bytes
names_of v k fs = map (λ (f : Field). name_of v k f.key) fs

abbrev pub Passes : Version → Bytes → Field → Type 0
Passes v k f = value_refusal v (kind_of k) (meaning_of f.value) (known_named v k f.key) ≡ 0

pub checked : (v : Version) (k : Bytes) (seen : List Bytes) (fs : List Field) → check_fields v k seen fs ≡ 0 → All (Passes v k) fs × Fresh seen (names_of v k fs)
unfolding check_fields
checked v k seen [] h = (tt, tt)
checked v k seen (f ∷ fs) h =
    let a = first_zero (value_refusal v (kind_of k) (meaning_of f.value) (known_named v k f.key)) _ h in
    let b = first_zero (unless (not (is_in (name_of v k f.key) seen)) 10) _ a.1 in
    let d = checked v k (name_of v k f.key ∷ seen) fs (first_zero (check_fields v k (name_of v k f.key ∷ seen) fs) [] b.1).0 in
    ((a.0, d.0), (not_true (is_in (name_of v k f.key) seen) (zero_unless _ 9 b.0), d.1))

pub check : (v : Version) (k : Bytes) (seen : List Bytes) (fs : List Field) → All (Passes v k) fs → Fresh seen (names_of v k fs) → check_fields v k seen fs ≡ 0
unfolding check_fields
check v k seen [] p f = refl
check v k seen (g ∷ fs) p f =
    zero_first (value_refusal v (kind_of k) (meaning_of g.value) (known_named v k g.key)) _ p.0
    (zero_first (unless (not (is_in (name_of v k g.key) seen)) 10) _ (rw f.0)
    (zero_first (check_fields v k (name_of v k g.key ∷ seen) fs) [] (check v k (name_of v k g.key ∷ seen) fs p.1 f.1) first_nil))

-- what a map that is not refused has
pub record Fine (v : Version) (k : Bytes) (fs : List Field) : Type 0 where
  pub passes : All (Passes v k) fs
  pub fresh : Fresh [] (names_of v k fs)
  pub whole : missing v k fs ≡ 0
  pub declared : misdeclared v k fs ≡ 0

pub fine : (v : Version) (k : Bytes) (s : Scan) → map_refusal v k s ≡ 0 → Fine v k s.0 × (s.1 ≡ 0)
unfolding map_refusal
fine v k s h =
    let a = first_zero (check_fields v k [] s.0) _ h in
    let b = first_zero s.1 _ a.1 in
    let c = first_zero (missing v k s.0) _ b.1 in
    let d = checked v k [] s.0 a.0 in
    (record { passes = d.0; fresh = d.1; whole = c.0; declared = (first_zero (misdeclared v k s.0) [] c.1).0 }, b.0)

pub not_refused : (v : Version) (k : Bytes) (fs : List Field) → Fine v k fs → map_refusal v k (fs, 0) ≡ 0
unfolding map_refusal
not_refused v k fs g =
    zero_first (check_fields v k [] fs) _ (check v k [] fs g.passes g.fresh)
    (zero_first 0 _ refl
    (zero_first (missing v k fs) _ g.whole
    (zero_first (misdeclared v k fs) [] g.declared first_nil)))

pub named_yes : (v : Version) (k n : Bytes) (f : Field) (fs : List Field) → same (name_of v k f.key) n ≡ true → field_named v k n (f ∷ fs) ≡ Some f
unfolding field_named
named_yes v k n f fs e = rw (e, field_named)

pub named_no : (v : Version) (k n : Bytes) (f : Field) (fs : List Field) → same (name_of v k f.key) n ≡ false → field_named v k n (f ∷ fs) ≡ field_named v k n fs
unfolding field_named
named_no v k n f fs e = rw (e, field_named)

-- the field of a name has it, and what every field has
pub on_named : (P : Field → Type 0) (v : Version) (k n : Bytes) (fs : List Field) → All P fs → OnSome (λ f. P f × (name_of v k f.key ≡ n)) (field_named v k n fs)
unfolding field_named
on_named P v k n [] h = tt
on_named P v k n (f ∷ fs) h = elim (test (same (name_of v k f.key) n)) [
  | pass e ↦ rw (named_yes v k n f fs e) (h.0, same_sound (name_of v k f.key) n e)
  | fail e ↦ rw (named_no v k n f fs e) (on_named P v k n fs h.1)
]
