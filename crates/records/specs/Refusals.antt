-- Document 01's number for each case of a refusal. Assumes nothing.
use Rattle.std.specs.Prelude.{ℕ}
use Rattle.records.specs.declared.refusal.Refusal.{Refusal}
use Rattle.records.specs.declared.refusal.Refusal.TheVariants.{ExpectedEof, LineTooLong, InvalidUtf8, MissingFileFormat, UnexpectedFileFormat, InvalidRecord, InvalidFileFormat, InvalidMap, InvalidField, DuplicateTag, InvalidNumber, InvalidType, InvalidInteger, MissingId, MissingNumber, MissingType, MissingDescription, DefinitionMismatch, DuplicateId, MixedValues, DuplicateOtherId, InvalidHeader, DuplicateSampleName, TableFull, Empty, MissingHeader, HeaderTooLong, FormTooLong, InvalidEntry}

abbrev pub number : Refusal → ℕ
number ExpectedEof = 1
number LineTooLong = 2
number InvalidUtf8 = 3
number MissingFileFormat = 4
number UnexpectedFileFormat = 5
number InvalidRecord = 6
number InvalidFileFormat = 7
number InvalidMap = 8
number InvalidField = 9
number DuplicateTag = 10
number InvalidNumber = 11
number InvalidType = 12
number InvalidInteger = 13
number MissingId = 14
number MissingNumber = 15
number MissingType = 16
number MissingDescription = 17
number DefinitionMismatch = 18
number DuplicateId = 19
number MixedValues = 20
number DuplicateOtherId = 21
number InvalidHeader = 22
number DuplicateSampleName = 23
number TableFull = 24
number Empty = 25
number MissingHeader = 26
number HeaderTooLong = 27
number FormTooLong = 28
number InvalidEntry = 29
