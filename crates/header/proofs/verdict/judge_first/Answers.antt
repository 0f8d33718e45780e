use Rattle.header.proofs.Verdicts.{firsts}
use Rattle.std.proofs.Common.{rules}
use Rattle.header.proofs.verdict.judge_first.Goals as goal

pub parse_record-requires : goal.parse_record-requires
parse_record-requires c = search (firsts, rules)

pub in_force-w-requires : goal.in_force-w-requires
in_force-w-requires c = search (firsts, rules)

pub returns-in-Ok-FileFormat : goal.returns-in-Ok-FileFormat
returns-in-Ok-FileFormat c = let e = rw c.in-Ok-FileFormat.field-0-is at c.in-Ok-FileFormat.is in search (firsts, e, rules)

pub returns-in-Ok-Map : goal.returns-in-Ok-Map
returns-in-Ok-Map c = let e = rw c.in-Ok-Map.field-0-is at c.in-Ok-Map.is in search (firsts, e, rules)

pub returns-in-Ok-Text : goal.returns-in-Ok-Text
returns-in-Ok-Text c = let e = rw c.in-Ok-Text.field-0-is at c.in-Ok-Text.is in search (firsts, e, rules)

pub returns-in-Err : goal.returns-in-Err
returns-in-Err c = search (firsts, rules)
