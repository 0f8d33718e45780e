use Rattle.entries.proofs.Tables.{next_fits}
use Rattle.columns.proofs.Stores.{columns}
use Rattle.std.proofs.Common.{rules}
use Rattle.columns.proofs.header_line.write_columns.Goals as goal

pub returns-then-not-put : goal.returns-then-not-put
returns-then-not-put c = search (columns, next_fits, rules)

pub returns : goal.returns
returns c = search (columns, next_fits, rules)
