-- The numbers of refusals. Assumes nothing.
use Prim.Native.Nat.{ℕ, suc}
use mathlib.Core.Path.{◌≡◌, refl, sym, ap, ◌∙◌}
use mathlib.Core.List.{List, [], ◌∷◌}
use Rattle.records.specs.Refusals.{number}
use Rattle.records.specs.declared.refusal.Refusal.{Refusal}
use Rattle.records.specs.declared.refusal.Refusal.TheVariants.{ExpectedEof, LineTooLong, InvalidUtf8, MissingFileFormat, UnexpectedFileFormat, InvalidRecord, InvalidFileFormat, InvalidMap, InvalidField, DuplicateTag, InvalidNumber, InvalidType, InvalidInteger, MissingId, MissingNumber, MissingType, MissingDescription, DefinitionMismatch, DuplicateId, MixedValues, DuplicateOtherId, InvalidHeader, DuplicateSampleName, TableFull, Empty, MissingHeader, HeaderTooLong, FormTooLong, InvalidEntry}

-- none is 0
pub number_suc : (x : Refusal) → (m : ℕ) × (number x ≡ suc m)
number_suc ExpectedEof = (0, refl)
number_suc LineTooLong = (1, refl)
number_suc InvalidUtf8 = (2, refl)
number_suc MissingFileFormat = (3, refl)
number_suc UnexpectedFileFormat = (4, refl)
number_suc InvalidRecord = (5, refl)
number_suc InvalidFileFormat = (6, refl)
number_suc InvalidMap = (7, refl)
number_suc InvalidField = (8, refl)
number_suc DuplicateTag = (9, refl)
number_suc InvalidNumber = (10, refl)
number_suc InvalidType = (11, refl)
number_suc InvalidInteger = (12, refl)
number_suc MissingId = (13, refl)
number_suc MissingNumber = (14, refl)
number_suc MissingType = (15, refl)
number_suc MissingDescription = (16, refl)
number_suc DefinitionMismatch = (17, refl)
number_suc DuplicateId = (18, refl)
number_suc MixedValues = (19, refl)
number_suc DuplicateOtherId = (20, refl)
number_suc InvalidHeader = (21, refl)
number_suc DuplicateSampleName = (22, refl)
number_suc TableFull = (23, refl)
number_suc Empty = (24, refl)
number_suc MissingHeader = (25, refl)
number_suc HeaderTooLong = (26, refl)
number_suc FormTooLong = (27, refl)
number_suc InvalidEntry = (28, refl)

-- the case of a number
abbrev at : ℕ → List Refusal → Refusal
at n [] = Empty
at ℕ.zero (x ∷ xs) = x
at (suc n) (x ∷ xs) = at n xs

abbrev refusals : List Refusal
refusals = Empty ∷ ExpectedEof ∷ LineTooLong ∷ InvalidUtf8 ∷ MissingFileFormat ∷ UnexpectedFileFormat ∷ InvalidRecord ∷ InvalidFileFormat ∷ InvalidMap ∷ InvalidField ∷ DuplicateTag ∷ InvalidNumber ∷ InvalidType ∷ InvalidInteger ∷ MissingId ∷ MissingNumber ∷ MissingType ∷ MissingDescription ∷ DefinitionMismatch ∷ DuplicateId ∷ MixedValues ∷ DuplicateOtherId ∷ InvalidHeader ∷ DuplicateSampleName ∷ TableFull ∷ Empty ∷ MissingHeader ∷ HeaderTooLong ∷ FormTooLong ∷ InvalidEntry ∷ []

back : (x : Refusal) → at (number x) refusals ≡ x
back ExpectedEof = refl
back LineTooLong = refl
back InvalidUtf8 = refl
back MissingFileFormat = refl
back UnexpectedFileFormat = refl
back InvalidRecord = refl
back InvalidFileFormat = refl
back InvalidMap = refl
back InvalidField = refl
back DuplicateTag = refl
back InvalidNumber = refl
back InvalidType = refl
back InvalidInteger = refl
back MissingId = refl
back MissingNumber = refl
back MissingType = refl
back MissingDescription = refl
back DefinitionMismatch = refl
back DuplicateId = refl
back MixedValues = refl
back DuplicateOtherId = refl
back InvalidHeader = refl
back DuplicateSampleName = refl
back TableFull = refl
back Empty = refl
back MissingHeader = refl
back HeaderTooLong = refl
back FormTooLong = refl
back InvalidEntry = refl

-- a number has one case
pub number_injective : (x y : Refusal) → number x ≡ number y → x ≡ y
number_injective x y e = sym (back x) ∙ ap (λ (n : ℕ). at n refusals) e ∙ back y
