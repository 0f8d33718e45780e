use Rattle.std.proofs.Common.{rules}
use Rattle.entries.proofs.Tables.{next_fits}
use Rattle.header.proofs.Parsers.{begins}
use Rattle.header.proofs.parser.Parser.keep_begun.Goals as goal

pub returns-then-not-put : goal.returns-then-not-put
returns-then-not-put c = search (begins, next_fits, rules)

pub overflow_add-count : goal.overflow_add-count
overflow_add-count c = search (begins, next_fits, rules)

pub returns : goal.returns
returns c = search (begins, next_fits, rules)
