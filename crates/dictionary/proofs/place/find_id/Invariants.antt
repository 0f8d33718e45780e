use Rattle.dictionary.proofs.Places.{Finding}
use Rattle.dictionary.proofs.place.find_id.Given as goal

abbrev pub invariant-loop-k : goal.invariant-loop-k
invariant-loop-k l = Finding l.dictionary l.form l.h l.ahead l.e l.k
