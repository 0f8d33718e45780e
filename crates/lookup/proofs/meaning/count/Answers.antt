use Rattle.lookup.proofs.Meanings.{meanings}
use Rattle.std.proofs.Common.{rules}
use Rattle.lookup.proofs.meaning.count.Goals as goal

pub slice_bounds-put-end : goal.slice_bounds-put-end
slice_bounds-put-end c = search (meanings, rules)

pub put-requires : goal.put-requires
put-requires c = search (meanings, rules)

pub returns : goal.returns
returns c = search (meanings, rules)
