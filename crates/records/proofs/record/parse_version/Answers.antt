use Rattle.records.proofs.Records.{versions}
use Rattle.std.proofs.Common.{rules}
use Rattle.records.proofs.record.parse_version.Goals as goal

pub part-value-requires : goal.part-value-requires
part-value-requires c = search (versions, rules)

pub parse_file_format-requires : goal.parse_file_format-requires
parse_file_format-requires c = search (versions, rules)

pub enum_known-version : goal.enum_known-version
enum_known-version c = search (versions, rules)

pub enum_told-1 : goal.enum_told-1
enum_told-1 c = search (versions, rules)

pub returns-in_default : goal.returns-in_default
returns-in_default c = search (versions, rules)

pub returns : goal.returns
returns c = search (versions, rules)
