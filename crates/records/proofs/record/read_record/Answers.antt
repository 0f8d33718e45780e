use Rattle.records.proofs.Quickly.{records_quickly}
use Rattle.std.proofs.Common.{rules}
use Rattle.records.proofs.record.read_record.Goals as goal

pub read_quick-requires : goal.read_quick-requires
read_quick-requires c = search (records_quickly, rules)

pub parse_record-requires : goal.parse_record-requires
parse_record-requires c = search (records_quickly, rules)

pub returns-in_default : goal.returns-in_default
returns-in_default c = search (records_quickly, rules)

pub quick_key-requires : goal.quick_key-requires
quick_key-requires c = search (records_quickly, rules)

pub overflow_add-result : goal.overflow_add-result
overflow_add-result c = search (records_quickly, rules)

pub returns : goal.returns
returns c = search (records_quickly, rules)
