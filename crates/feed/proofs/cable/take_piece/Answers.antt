use Rattle.feed.proofs.Calls.{pieces}
use Rattle.std.proofs.Common.{rules}
use Rattle.feed.proofs.cable.take_piece.Goals as goal

pub returns-then-not-has_room : goal.returns-then-not-has_room
returns-then-not-has_room c = search (pieces, rules)

pub put_piece-now-requires : goal.put_piece-now-requires
put_piece-now-requires c = search (pieces, rules)

pub slice_bounds-read_complete-end : goal.slice_bounds-read_complete-end
slice_bounds-read_complete-end c = search (pieces, rules)

pub slice_bounds-read_complete-end-2 : goal.slice_bounds-read_complete-end-2
slice_bounds-read_complete-end-2 c = search (pieces, rules)

pub returns : goal.returns
returns c = search (pieces, rules)
