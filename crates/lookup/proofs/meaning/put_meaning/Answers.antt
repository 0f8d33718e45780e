use Rattle.lookup.proofs.Meanings.{meanings}
use Rattle.std.proofs.Common.{rules}
use Rattle.lookup.proofs.meaning.put_meaning.Goals as goal

pub count-size-requires : goal.count-size-requires
count-size-requires c = search (meanings, rules)

pub returns-then-out-size : goal.returns-then-out-size
returns-then-out-size c = search (meanings, rules)

pub put-requires : goal.put-requires
put-requires c = search (meanings, rules)

pub shape_of-out : goal.shape_of-out
shape_of-out c = search (meanings, rules)

pub returns : goal.returns
returns c = search (meanings, rules)
