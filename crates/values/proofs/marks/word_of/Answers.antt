use Rattle.values.proofs.Markings.{words}
use Rattle.std.proofs.Common.{rules}
use Rattle.values.proofs.marks.word_of.Goals as goal

pub returns-then-words-lt4294967295 : goal.returns-then-words-lt4294967295
returns-then-words-lt4294967295 c = search (words, rules)

pub returns : goal.returns
returns c = search (words, rules)
