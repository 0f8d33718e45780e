use Prim.Native.Nat.{◌-◌}
use lib.ListN.{length}
use Rattle.header.specs.Verdicts.{imposed_of}
use Rattle.header.specs.Parsers.{spot_in}
use Rattle.header.proofs.Parsers.{Going}
use Rattle.header.proofs.parser.read_lines.Given as goal

abbrev pub invariant-loop-parser : goal.invariant-loop-parser
invariant-loop-parser l = Going l.options.form (imposed_of l.options.imposed) l.options.ascii l.header l.end l.initial.table (spot_in l.initial.parser) l.initial.marks l.marks l.table l.parser

abbrev pub decreases-loop-parser : goal.decreases-loop-parser
decreases-loop-parser l = length l.header - l.parser.at
