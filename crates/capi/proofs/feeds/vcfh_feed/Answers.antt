use Rattle.capi.proofs.Pieces.{feeds}
use Rattle.std.proofs.Common.{rules}
use Rattle.capi.proofs.feeds.vcfh_feed.Goals as goal

pub returns-then-state-ne0 : goal.returns-then-state-ne0
returns-then-state-ne0 c = search (feeds, rules)

pub returns-in_default : goal.returns-in_default
returns-in_default c = search (feeds, rules)

pub returns : goal.returns
returns c = search (feeds, c.fed.ensures, c.feed.ensures, c.open_state-was.ensures, c.phase_by.ensures, c.form_of-named.ensures, rules)
