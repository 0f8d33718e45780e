use Rattle.records.proofs.Loops.{Walking}
use Prim.Native.Nat.{◌-◌}
use lib.ListN.{length}
use Rattle.records.specs.Maps.{slots_of}
use Rattle.records.proofs.map.walk_fields.Given as goal

abbrev pub invariant-loop-x : goal.invariant-loop-x
invariant-loop-x l =
    Walking l.map l.s l.c.at (slots_of l.id l.number l.kind l.description l.plain l.odd) l.fields l.distinct

abbrev pub decreases-loop-x : goal.decreases-loop-x
decreases-loop-x l =
    length l.s - l.c.at
