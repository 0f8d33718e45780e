use Prim.Native.Nat.{◌-◌}
use lib.ListN.{length}
use Rattle.records.specs.Formats.{version_of}
use Rattle.entries.specs.Values.{limits_by}
use Rattle.header.proofs.Aheads.{Noting}
use Rattle.header.proofs.ahead.note_lines.Given as goal

abbrev pub invariant-loop-start : goal.invariant-loop-start
invariant-loop-start l = Noting (limits_by l.form) (version_of l.version) l.h l.from l.initial.notes l.notes l.start

abbrev pub decreases-loop-start : goal.decreases-loop-start
decreases-loop-start l = length l.h - l.start
