use Rattle.std.proofs.Common.{rules}
use Rattle.dictionary.proofs.Places.{counts}
use Rattle.dictionary.proofs.place.has_number.Goals as goal

pub returns-then-has_idx : goal.returns-then-has_idx
returns-then-has_idx c = search (counts, rules)

pub loop-k-preserved : goal.loop-k-preserved
loop-k-preserved c = search (counts, rules)

pub returns : goal.returns
returns c = search (counts, rules)
