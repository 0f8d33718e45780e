use Rattle.feed.proofs.Calls.{rests}
use Rattle.std.proofs.Common.{rules}
use Rattle.feed.proofs.cable.read_rest.Goals as goal

pub stop-requires : goal.stop-requires
stop-requires c = search (rests, rules)
