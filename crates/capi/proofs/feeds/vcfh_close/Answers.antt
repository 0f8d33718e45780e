use Rattle.capi.proofs.Pieces.{closes}
use Rattle.std.proofs.Common.{rules}
use Rattle.capi.proofs.feeds.vcfh_close.Goals as goal

pub returns-then-state-ne0 : goal.returns-then-state-ne0
returns-then-state-ne0 c = search (closes, rules)

pub returns-in_default : goal.returns-in_default
returns-in_default c = search (closes, rules)

pub returns : goal.returns
returns c = search (closes, rules)
