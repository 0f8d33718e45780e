use Rattle.header.proofs.Verdicts.{all_columns}
use Rattle.std.proofs.Common.{rules}
use Rattle.header.proofs.verdict.judge_columns.Goals as goal

pub parse_header-requires : goal.parse_header-requires
parse_header-requires c = search (all_columns, rules)

pub returns-in-Ok : goal.returns-in-Ok
returns-in-Ok c = search (all_columns, rules)

pub returns-in-Err-WrongColumn : goal.returns-in-Err-WrongColumn
returns-in-Err-WrongColumn c = let e = rw c.in-Err-WrongColumn.field-0-is at c.in-Err-WrongColumn.is in search (all_columns, e, rules)

pub returns-in-Err-DuplicateSample : goal.returns-in-Err-DuplicateSample
returns-in-Err-DuplicateSample c = let e = rw c.in-Err-DuplicateSample.field-0-is at c.in-Err-DuplicateSample.is in search (all_columns, e, rules)
