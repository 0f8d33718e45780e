use Rattle.std.proofs.Common.{rules}
use Rattle.records.proofs.Records.{records}
use Rattle.records.proofs.record.parse_record.Goals as goal

pub consume_prefix-requires : goal.consume_prefix-requires
consume_prefix-requires c = search (records, rules)

pub returns-then-not-consume_prefix : goal.returns-then-not-consume_prefix
returns-then-not-consume_prefix c = search (records, rules)

pub parse_key-requires : goal.parse_key-requires
parse_key-requires c = search (records, rules)

pub parse_version-requires : goal.parse_version-requires
parse_version-requires c = search (records, rules)

pub parse_value-requires : goal.parse_value-requires
parse_value-requires c = search (records, rules)
