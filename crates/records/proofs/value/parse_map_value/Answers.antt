use Rattle.std.proofs.Common.{rules}
use Rattle.records.proofs.Records.{by_case}
use Rattle.records.proofs.value.parse_map_value.Goals as goal

pub parse_typed_value-requires : goal.parse_typed_value-requires
parse_typed_value-requires c = search (by_case, rules)

pub returns-in-Info : goal.returns-in-Info
returns-in-Info c = search (by_case, rules)

pub returns-in-Filter : goal.returns-in-Filter
returns-in-Filter c = search (by_case, rules)

pub returns-in-Contig : goal.returns-in-Contig
returns-in-Contig c = search (by_case, rules)
