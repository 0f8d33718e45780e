use Rattle.records.proofs.Declares.{rows}
use Rattle.std.proofs.Common.{rules}
use Rattle.records.proofs.definition.definition_of.Goals as goal

pub returns-then-lt : goal.returns-then-lt
returns-then-lt c = search (rows, rules)

pub returns-then-lt-2 : goal.returns-then-lt-2
returns-then-lt-2 c = search (rows, rules)

pub returns-then-is_info : goal.returns-then-is_info
returns-then-is_info c = search (rows, rules)

pub returns-then-not-is_format : goal.returns-then-not-is_format
returns-then-not-is_format c = search (rows, rules)

pub returns-then-lt-3 : goal.returns-then-lt-3
returns-then-lt-3 c = search (rows, rules)

pub returns-then-lt-4 : goal.returns-then-lt-4
returns-then-lt-4 c = search (rows, rules)

pub returns : goal.returns
returns c = search (rows, rules)
