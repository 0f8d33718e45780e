use Prim.Native.Nat.{◌-◌}
use lib.ListN.{length}
use Rattle.sam.proofs.Tags.{Checking}
use Rattle.sam.proofs.tag.are_tags.Given as goal

abbrev pub invariant-loop-tag : goal.invariant-loop-tag
invariant-loop-tag l = Checking l.line l.met l.at

abbrev pub decreases-loop-tag : goal.decreases-loop-tag
decreases-loop-tag l = length l.line - l.at
