use Rattle.records.proofs.Distincts.{Classing}
use Rattle.records.proofs.distinct.doubt_classes.Given as goal

abbrev pub invariant-loop-class : goal.invariant-loop-class
invariant-loop-class l = Classing l.classes l.class l.map l.s l.initial.doubts l.doubts l.distinct
