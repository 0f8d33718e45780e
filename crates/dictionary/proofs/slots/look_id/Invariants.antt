use Rattle.dictionary.specs.Slots.{Passed, is_named, id_slot}
use Rattle.dictionary.specs.Lines.{id_at}
use Rattle.dictionary.proofs.slots.look_id.Given as goal

abbrev pub invariant-loop-at : goal.invariant-loop-at
invariant-loop-at l = Passed is_named id_slot l.form l.h l.kept l.slots (id_at l.h l.e) l.at
