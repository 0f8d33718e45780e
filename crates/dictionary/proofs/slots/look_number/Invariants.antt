use Rattle.dictionary.specs.Slots.{Passed, is_numbered, number_slot}
use Rattle.dictionary.proofs.slots.look_number.Given as goal

abbrev pub invariant-loop-at : goal.invariant-loop-at
invariant-loop-at l = Passed is_numbered number_slot l.form l.h l.kept l.slots l.n l.at
