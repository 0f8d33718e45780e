use Rattle.entries.proofs.Tables.{next_fits}
use Rattle.columns.proofs.Stores.{stores}
use Rattle.std.proofs.Common.{rules}
use Rattle.columns.proofs.header_line.write_samples.Goals as goal

pub returns-then-line-lt-NAMES_START : goal.returns-then-line-lt-NAMES_START
returns-then-line-lt-NAMES_START c = search (stores, next_fits, rules)

pub loop-line-init : goal.loop-line-init
loop-line-init c = search (stores, next_fits, rules)

pub returns-then-not-put : goal.returns-then-not-put
returns-then-not-put c = search (stores, next_fits, rules)

pub returns-then-line-tab : goal.returns-then-line-tab
returns-then-line-tab c = search (stores, next_fits, rules)

pub loop-line-preserved : goal.loop-line-preserved
loop-line-preserved c = search (stores, next_fits, rules)
