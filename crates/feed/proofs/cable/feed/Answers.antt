use Rattle.feed.proofs.Calls.{feeds}
use Rattle.std.proofs.Common.{rules}
use Rattle.feed.proofs.cable.feed.Goals as goal

pub returns-then-not-is_sound : goal.returns-then-not-is_sound
returns-then-not-is_sound c = search (feeds, rules)

pub returns-in-Some : goal.returns-in-Some
returns-in-Some c = search (feeds, rules)

pub returns-in-None : goal.returns-in-None
returns-in-None c = search (feeds, rules)
