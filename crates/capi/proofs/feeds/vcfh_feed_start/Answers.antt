use Rattle.capi.proofs.Pieces.{tos}
use Rattle.std.proofs.Common.{rules}
use Rattle.capi.proofs.feeds.vcfh_feed_start.Goals as goal

pub returns : goal.returns
returns c = search (tos, rules)
