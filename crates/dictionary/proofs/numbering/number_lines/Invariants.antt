use Rattle.dictionary.proofs.Pairs.{Progress}
use Rattle.dictionary.proofs.numbering.number_lines.Given as goal

abbrev pub invariant-loop-k : goal.invariant-loop-k
invariant-loop-k l = Progress l.asked.dictionary l.asked.indexed l.asked.form l.h l.kept l.initial.out l.out l.count l.lines l.k
