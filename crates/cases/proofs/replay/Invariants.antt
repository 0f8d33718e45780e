use Rattle.std.proofs.Common.{length, ◌+◌, ◌≤◌}
use Rattle.std.specs.Slice.Iter.{split_inclusive_rest}
use Rattle.cases.proofs.replay.Given as goal

-- each case takes a byte at least
abbrev pub invariant-loop-piece : goal.invariant-loop-piece
invariant-loop-piece l =
    (goal.iterator-loop-piece).can_next l.piece-iterator ×
    (goal.iterator-loop-piece).is_finite l.piece-iterator ×
    (l.cases + length (split_inclusive_rest l.piece-iterator) ≤ length l.file) ×
    (l.wrong ≤ l.cases)
