use Rattle.feed.proofs.Calls.{completes}
use Rattle.std.proofs.Common.{rules}
use Rattle.feed.proofs.cable.read_complete.Goals as goal

pub stop-requires : goal.stop-requires
stop-requires c = search (completes, rules)
