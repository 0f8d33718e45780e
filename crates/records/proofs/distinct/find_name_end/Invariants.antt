use Rattle.values.specs.Field.{ends_key}
use Rattle.values.proofs.Scans.{Scanning}
use Rattle.records.proofs.distinct.find_name_end.Given as goal

abbrev pub invariant-loop-i : goal.invariant-loop-i
invariant-loop-i l = Scanning ends_key l.s l.start l.i
