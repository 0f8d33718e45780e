use Rattle.std.specs.Slice.Iter.{chunks_exact_rest, chunks_exact_size}
use Rattle.records.proofs.Definitions.{Looking}
use Rattle.records.proofs.definition.row_in.Given as goal

abbrev pub invariant-loop-row : goal.invariant-loop-row
invariant-loop-row l = Looking l.rows l.id (chunks_exact_size l.row-iterator) (chunks_exact_rest l.row-iterator)
