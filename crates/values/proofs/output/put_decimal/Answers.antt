use Rattle.values.proofs.Outputs.{only_written}
use Rattle.std.proofs.Common.{rules}
use Rattle.values.proofs.output.put_decimal.Goals as goal

pub returns : goal.returns
returns c = search (only_written, rules)
