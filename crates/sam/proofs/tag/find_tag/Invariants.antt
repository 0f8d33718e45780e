use Prim.Native.Nat.{◌-◌}
use lib.ListN.{length}
use Rattle.sam.proofs.Tags.{Looking}
use Rattle.sam.proofs.tag.find_tag.Given as goal

abbrev pub invariant-loop-tag : goal.invariant-loop-tag
invariant-loop-tag l = Looking l.line l.name l.start l.at

abbrev pub decreases-loop-tag : goal.decreases-loop-tag
decreases-loop-tag l = length l.line - l.at
