use Rattle.std.proofs.Common.{rules}
use Rattle.values.proofs.Outputs.{counts_past}
use Rattle.values.proofs.sink.put_bytes.Goals as goal

pub returns-then-differs-at : goal.returns-then-differs-at
returns-then-differs-at c = counts_past _ (search rules) (search rules) (search rules) (search rules)
