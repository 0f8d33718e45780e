use Rattle.records.proofs.Records.{with_definition}
use Rattle.std.proofs.Common.{rules}
use Rattle.records.proofs.value.parse_typed_value.Goals as goal

pub parse_typed-requires : goal.parse_typed-requires
parse_typed-requires c = search (with_definition, rules)

pub validate_definition-requires : goal.validate_definition-requires
validate_definition-requires c = search (with_definition, rules)

pub returns-then-not-validate_definition : goal.returns-then-not-validate_definition
returns-then-not-validate_definition c = search (with_definition, rules)

pub returns-else-not-validate_definition : goal.returns-else-not-validate_definition
returns-else-not-validate_definition c = search (with_definition, rules)
