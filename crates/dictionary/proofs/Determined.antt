-- What a dictionary call tells determines its answer. Assumes nothing.
use Rattle.std.specs.Prelude.{Result, Ok, Err}
use Prim.Native.Nat.{ℕ, ◌<◌}
use native.Mathlib.Omega.{arith}
use mathlib.Core.Path.{◌≡◌, refl, sym, ap, ap₂}
use Rattle.values.proofs.Lists.{some_is, none_not}
use Rattle.rules.specs.Version.{Version}
use Rattle.records.specs.Formats.{format_of}
use Rattle.records.specs.Refusals.{number}
use Rattle.records.specs.declared.refusal.Refusal.{Refusal}
use Rattle.records.specs.declared.refusal.Refusal.TheVariants.{ExpectedEof, LineTooLong, InvalidUtf8, MissingFileFormat, UnexpectedFileFormat, InvalidRecord, InvalidFileFormat, InvalidMap, InvalidField, DuplicateTag, InvalidNumber, InvalidType, InvalidInteger, MissingId, MissingNumber, MissingType, MissingDescription, DefinitionMismatch, DuplicateId, MixedValues, DuplicateOtherId, InvalidHeader, DuplicateSampleName, TableFull, Empty, MissingHeader, HeaderTooLong, FormTooLong, InvalidEntry}
use Rattle.records.proofs.Refusals.{number_injective}
use Rattle.dictionary.specs.Answers.{dictionary_number, dictionary_says, DictionariesMeaning, dictionary_answer_means}
use Rattle.dictionary.specs.declared.string_maps.DictionaryRefusal.{DictionaryRefusal}
use Rattle.dictionary.specs.declared.string_maps.DictionaryRefusal.TheVariants as outcome
use Rattle.dictionary.specs.declared.string_maps.DictionaryAnswer.{DictionaryAnswer}
use Rattle.records.specs.declared.file_format.FileFormat.{FileFormat}

-- the reading's refusals have other numbers than the dictionaries'
number_small : (x : Refusal) → number x < 30
number_small ExpectedEof = omega arith
number_small LineTooLong = omega arith
number_small InvalidUtf8 = omega arith
number_small MissingFileFormat = omega arith
number_small UnexpectedFileFormat = omega arith
number_small InvalidRecord = omega arith
number_small InvalidFileFormat = omega arith
number_small InvalidMap = omega arith
number_small InvalidField = omega arith
number_small DuplicateTag = omega arith
number_small InvalidNumber = omega arith
number_small InvalidType = omega arith
number_small InvalidInteger = omega arith
number_small MissingId = omega arith
number_small MissingNumber = omega arith
number_small MissingType = omega arith
number_small MissingDescription = omega arith
number_small DefinitionMismatch = omega arith
number_small DuplicateId = omega arith
number_small MixedValues = omega arith
number_small DuplicateOtherId = omega arith
number_small InvalidHeader = omega arith
number_small DuplicateSampleName = omega arith
number_small TableFull = omega arith
number_small Empty = omega arith
number_small MissingHeader = omega arith
number_small HeaderTooLong = omega arith
number_small FormTooLong = omega arith
number_small InvalidEntry = omega arith

outcome_is : (x y : Result (FileFormat × ℕ) DictionaryRefusal) → dictionary_number x ≡ dictionary_number y → dictionary_says x ≡ dictionary_says y → x ≡ y
outcome_is (Ok (f, m)) (Ok (g, n)) e s =
    let p = some_is s in
    ap₂ (λ (a : FileFormat) (b : ℕ). Ok (a, b)) (ap (λ (q : Version × ℕ). format_of q.0) p) (ap (λ (q : Version × ℕ). q.1) p)
outcome_is (Ok (f, m)) (Err (outcome.Unread y)) e s = none_not (sym s)
outcome_is (Ok (f, m)) (Err outcome.PartlyIndexed) e s = none_not (sym s)
outcome_is (Ok (f, m)) (Err outcome.NumberClash) e s = none_not (sym s)
outcome_is (Ok (f, m)) (Err outcome.SliceTooSmall) e s = none_not (sym s)
outcome_is (Err (outcome.Unread x)) (Ok (g, n)) e s = none_not s
outcome_is (Err (outcome.Unread x)) (Err (outcome.Unread y)) e s = ap (λ (z : Refusal). Err (outcome.Unread z)) (number_injective x y e)
outcome_is (Err (outcome.Unread x)) (Err outcome.PartlyIndexed) e s = absurd (omega (arith, number_small x))
outcome_is (Err (outcome.Unread x)) (Err outcome.NumberClash) e s = absurd (omega (arith, number_small x))
outcome_is (Err (outcome.Unread x)) (Err outcome.SliceTooSmall) e s = absurd (omega (arith, number_small x))
outcome_is (Err outcome.PartlyIndexed) (Ok (g, n)) e s = none_not s
outcome_is (Err outcome.PartlyIndexed) (Err (outcome.Unread y)) e s = absurd (omega (arith, number_small y))
outcome_is (Err outcome.PartlyIndexed) (Err outcome.PartlyIndexed) e s = refl
outcome_is (Err outcome.PartlyIndexed) (Err outcome.NumberClash) e s = absurd (omega arith)
outcome_is (Err outcome.PartlyIndexed) (Err outcome.SliceTooSmall) e s = absurd (omega arith)
outcome_is (Err outcome.NumberClash) (Ok (g, n)) e s = none_not s
outcome_is (Err outcome.NumberClash) (Err (outcome.Unread y)) e s = absurd (omega (arith, number_small y))
outcome_is (Err outcome.NumberClash) (Err outcome.PartlyIndexed) e s = absurd (omega arith)
outcome_is (Err outcome.NumberClash) (Err outcome.NumberClash) e s = refl
outcome_is (Err outcome.NumberClash) (Err outcome.SliceTooSmall) e s = absurd (omega arith)
outcome_is (Err outcome.SliceTooSmall) (Ok (g, n)) e s = none_not s
outcome_is (Err outcome.SliceTooSmall) (Err (outcome.Unread y)) e s = absurd (omega (arith, number_small y))
outcome_is (Err outcome.SliceTooSmall) (Err outcome.PartlyIndexed) e s = absurd (omega arith)
outcome_is (Err outcome.SliceTooSmall) (Err outcome.NumberClash) e s = absurd (omega arith)
outcome_is (Err outcome.SliceTooSmall) (Err outcome.SliceTooSmall) e s = refl

-- two answers that tell the same are the same, so what `dictionaries` promises is one answer
pub told_injective : (a b : DictionaryAnswer) → dictionary_answer_means a ≡ dictionary_answer_means b → a ≡ b
told_injective a b e =
    let o = outcome_is a.outcome b.outcome (ap (λ (t : DictionariesMeaning). t.number) e) (ap (λ (t : DictionariesMeaning). t.accepted) e) in
    let l = ap (λ (t : DictionariesMeaning). t.line) e in
    let s = ap (λ (t : DictionariesMeaning). t.start) e in
    let n = ap (λ (t : DictionariesMeaning). t.entries) e in
    let x = ap (λ (t : DictionariesMeaning). t.strings) e in
    let y = ap (λ (t : DictionariesMeaning). t.contigs) e in
    rw (o, l, s, n, x, y)
