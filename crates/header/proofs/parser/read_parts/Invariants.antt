use Prim.Native.Nat.{◌-◌}
use Rattle.header.specs.Verdicts.{imposed_of}
use Rattle.header.specs.Parsers.{spot_in}
use Rattle.header.proofs.Parts.{Parting}
use Rattle.header.proofs.parser.read_parts.Given as goal

abbrev pub invariant-loop-reach : goal.invariant-loop-reach
invariant-loop-reach l = Parting l.form (imposed_of l.imposed) l.header l.end l.initial.table (spot_in l.initial.parser) l.table (spot_in l.parser) l.reach

abbrev pub decreases-loop-reach : goal.decreases-loop-reach
decreases-loop-reach l = l.end - l.reach
