use Rattle.lookup.proofs.Meanings.{meanings}
use Rattle.std.proofs.Common.{rules}
use Rattle.lookup.proofs.meaning.put.Goals as goal

pub put_value-next-requires : goal.put_value-next-requires
put_value-next-requires c = search (meanings, rules)

pub shape_of-out : goal.shape_of-out
shape_of-out c = search (meanings, rules)

pub returns : goal.returns
returns c = search (meanings, rules)
