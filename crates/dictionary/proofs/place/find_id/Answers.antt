use Rattle.std.proofs.Common.{rules}
use Rattle.dictionary.proofs.Places.{finds}
use Rattle.dictionary.proofs.place.find_id.Goals as goal

pub returns-then-same_meaning : goal.returns-then-same_meaning
returns-then-same_meaning c = search (finds, rules)

pub loop-k-preserved : goal.loop-k-preserved
loop-k-preserved c = search (finds, rules)

pub returns : goal.returns
returns c = search (finds, rules)
