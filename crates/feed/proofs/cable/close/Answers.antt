use Rattle.feed.proofs.Calls.{closings}
use Rattle.std.proofs.Common.{rules}
use Rattle.feed.proofs.cable.close.Goals as goal

pub returns-then-not-is_sound : goal.returns-then-not-is_sound
returns-then-not-is_sound c = search (closings, rules)

pub slice_bounds-read_rest-end : goal.slice_bounds-read_rest-end
slice_bounds-read_rest-end c = search (closings, rules)

pub returns-in-Some : goal.returns-in-Some
returns-in-Some c = search (closings, rules)

pub returns-in-None : goal.returns-in-None
returns-in-None c = search (closings, rules)
