use Rattle.std.proofs.Common.{rules}
use Rattle.entries.proofs.Tables.{next_fits}
use Rattle.header.proofs.Parsers.{keeps}
use Rattle.header.proofs.parser.Parser.keep.Goals as goal

pub returns-then-not-put : goal.returns-then-not-put
returns-then-not-put c = search (keeps, next_fits, rules)

pub overflow_add-count : goal.overflow_add-count
overflow_add-count c = search (keeps, next_fits, rules)

pub returns-else-not-put : goal.returns-else-not-put
returns-else-not-put c = search (keeps, next_fits, rules)
