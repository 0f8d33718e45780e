use Rattle.std.proofs.Common.{rules}
use Rattle.header.proofs.Parsers.{columns}
use Rattle.header.proofs.parser.Parser.keep_columns.Goals as goal

pub returns-then-count-samples : goal.returns-then-count-samples
returns-then-count-samples c = search (columns, rules)

pub returns : goal.returns
returns c = search (columns, rules)
