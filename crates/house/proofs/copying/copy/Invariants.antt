use Rattle.house.proofs.Copies.{Copying}
use Rattle.house.proofs.copying.copy.Given as goal

abbrev pub invariant-loop-i : goal.invariant-loop-i
invariant-loop-i l = Copying l.initial.out l.text l.out l.at l.i
