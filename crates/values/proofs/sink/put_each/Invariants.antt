use Rattle.values.proofs.Outputs.{Putting}
use Rattle.values.proofs.sink.put_each.Given as goal

abbrev pub invariant-loop-b : goal.invariant-loop-b
invariant-loop-b l = Putting l.given l.initial.out l.initial.next l.text l.out l.next l.b-index
