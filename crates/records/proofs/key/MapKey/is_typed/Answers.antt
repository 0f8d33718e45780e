use Rattle.values.specs.Bytes.{same}
use Rattle.rules.specs.Known.{is_in, is_typed}
use Rattle.std.proofs.Common.{rules}
use Rattle.records.proofs.key.MapKey.is_typed.Goals as goal

pub returns : goal.returns
unfolding same is_in is_typed
returns c = search rules
