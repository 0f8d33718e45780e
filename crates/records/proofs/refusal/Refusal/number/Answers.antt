use Rattle.records.proofs.refusal.Refusal.number.Goals as goal

pub returns-in-ExpectedEof : goal.returns-in-ExpectedEof
returns-in-ExpectedEof c = rw c.in-ExpectedEof.is

pub returns-in-LineTooLong : goal.returns-in-LineTooLong
returns-in-LineTooLong c = rw c.in-LineTooLong.is

pub returns-in-InvalidUtf8 : goal.returns-in-InvalidUtf8
returns-in-InvalidUtf8 c = rw c.in-InvalidUtf8.is

pub returns-in-MissingFileFormat : goal.returns-in-MissingFileFormat
returns-in-MissingFileFormat c = rw c.in-MissingFileFormat.is

pub returns-in-UnexpectedFileFormat : goal.returns-in-UnexpectedFileFormat
returns-in-UnexpectedFileFormat c = rw c.in-UnexpectedFileFormat.is

pub returns-in-InvalidRecord : goal.returns-in-InvalidRecord
returns-in-InvalidRecord c = rw c.in-InvalidRecord.is

pub returns-in-InvalidFileFormat : goal.returns-in-InvalidFileFormat
returns-in-InvalidFileFormat c = rw c.in-InvalidFileFormat.is

pub returns-in-InvalidMap : goal.returns-in-InvalidMap
returns-in-InvalidMap c = rw c.in-InvalidMap.is

pub returns-in-InvalidField : goal.returns-in-InvalidField
returns-in-InvalidField c = rw c.in-InvalidField.is

pub returns-in-DuplicateTag : goal.returns-in-DuplicateTag
returns-in-DuplicateTag c = rw c.in-DuplicateTag.is

pub returns-in-InvalidNumber : goal.returns-in-InvalidNumber
returns-in-InvalidNumber c = rw c.in-InvalidNumber.is

pub returns-in-InvalidType : goal.returns-in-InvalidType
returns-in-InvalidType c = rw c.in-InvalidType.is

pub returns-in-InvalidInteger : goal.returns-in-InvalidInteger
returns-in-InvalidInteger c = rw c.in-InvalidInteger.is

pub returns-in-MissingId : goal.returns-in-MissingId
returns-in-MissingId c = rw c.in-MissingId.is

pub returns-in-MissingNumber : goal.returns-in-MissingNumber
returns-in-MissingNumber c = rw c.in-MissingNumber.is

pub returns-in-MissingType : goal.returns-in-MissingType
returns-in-MissingType c = rw c.in-MissingType.is

pub returns-in-MissingDescription : goal.returns-in-MissingDescription
returns-in-MissingDescription c = rw c.in-MissingDescription.is

pub returns-in-DefinitionMismatch : goal.returns-in-DefinitionMismatch
returns-in-DefinitionMismatch c = rw c.in-DefinitionMismatch.is

pub returns-in-DuplicateId : goal.returns-in-DuplicateId
returns-in-DuplicateId c = rw c.in-DuplicateId.is

pub returns-in-MixedValues : goal.returns-in-MixedValues
returns-in-MixedValues c = rw c.in-MixedValues.is

pub returns-in-DuplicateOtherId : goal.returns-in-DuplicateOtherId
returns-in-DuplicateOtherId c = rw c.in-DuplicateOtherId.is

pub returns-in-InvalidHeader : goal.returns-in-InvalidHeader
returns-in-InvalidHeader c = rw c.in-InvalidHeader.is

pub returns-in-DuplicateSampleName : goal.returns-in-DuplicateSampleName
returns-in-DuplicateSampleName c = rw c.in-DuplicateSampleName.is

pub returns-in-TableFull : goal.returns-in-TableFull
returns-in-TableFull c = rw c.in-TableFull.is

pub returns-in-Empty : goal.returns-in-Empty
returns-in-Empty c = rw c.in-Empty.is

pub returns-in-MissingHeader : goal.returns-in-MissingHeader
returns-in-MissingHeader c = rw c.in-MissingHeader.is

pub returns-in-HeaderTooLong : goal.returns-in-HeaderTooLong
returns-in-HeaderTooLong c = rw c.in-HeaderTooLong.is

pub returns-in-FormTooLong : goal.returns-in-FormTooLong
returns-in-FormTooLong c = rw c.in-FormTooLong.is

pub returns-in-InvalidEntry : goal.returns-in-InvalidEntry
returns-in-InvalidEntry c = rw c.in-InvalidEntry.is
