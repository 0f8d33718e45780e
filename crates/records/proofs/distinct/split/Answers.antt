use Rattle.records.proofs.Skims.{skims}
use Rattle.std.proofs.Common.{rules}
use Rattle.records.proofs.distinct.split.Goals as goal

pub split_field-requires : goal.split_field-requires
split_field-requires c = search (skims, rules)

pub returns-then-brackets : goal.returns-then-brackets
returns-then-brackets c = search (skims, rules)

pub parse_name-requires : goal.parse_name-requires
parse_name-requires c = search (skims, rules)

pub returns-in_default : goal.returns-in_default
returns-in_default c = search (skims, rules)

pub parse_bare-requires : goal.parse_bare-requires
parse_bare-requires c = search (skims, rules)

pub split_field-requires-in_default-parse_bare : goal.split_field-requires-in_default-parse_bare
split_field-requires-in_default-parse_bare c = search (skims, rules)

pub returns-in_default-parse_bare : goal.returns-in_default-parse_bare
returns-in_default-parse_bare c = search (skims, rules)

pub returns : goal.returns
returns c = search (skims, rules)
