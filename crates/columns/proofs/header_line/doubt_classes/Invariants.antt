use Rattle.columns.proofs.Classes.{Classing}
use Rattle.columns.proofs.header_line.doubt_classes.Given as goal

abbrev pub invariant-loop-class : goal.invariant-loop-class
invariant-loop-class l = Classing l.s l.classes l.class l.initial.doubts l.doubts
