use Rattle.dictionary.proofs.Pairs.{Carrying}
use Rattle.dictionary.proofs.numbering.carried_in.Given as goal

abbrev pub invariant-loop-k : goal.invariant-loop-k
invariant-loop-k l = Carrying l.dictionary l.form l.h l.kept l.given l.missing l.lines l.k
