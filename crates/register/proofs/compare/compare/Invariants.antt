use Rattle.register.proofs.Differ.{Compares}
use Rattle.register.proofs.compare.compare.Given as goal

abbrev pub invariant-loop-w : goal.invariant-loop-w
invariant-loop-w l = Compares l.old l.new l.wells l.before l.after l.count l.w
