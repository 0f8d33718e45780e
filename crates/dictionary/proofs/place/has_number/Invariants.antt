use Rattle.dictionary.proofs.Places.{Counting}
use Rattle.dictionary.proofs.place.has_number.Given as goal

abbrev pub invariant-loop-k : goal.invariant-loop-k
invariant-loop-k l = Counting l.dictionary l.form l.h l.ahead l.n l.k
