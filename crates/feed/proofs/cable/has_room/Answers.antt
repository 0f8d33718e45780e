use Rattle.feed.proofs.Calls.{has_rooms}
use Rattle.std.proofs.Common.{rules}
use Rattle.feed.proofs.cable.has_room.Goals as goal

pub returns-then-fits_more : goal.returns-then-fits_more
returns-then-fits_more c = search (has_rooms, rules)

pub returns-else-fits_more : goal.returns-else-fits_more
returns-else-fits_more c = search (has_rooms, rules)
