use Rattle.std.proofs.Common.{rules}
use Rattle.values.proofs.Meanings.{write, writes}
use Rattle.values.proofs.string.put_meaning.Goals as goal

pub loop-b-init : goal.loop-b-init
loop-b-init c = write _ _ _ _ _ _ (search rules) (search rules)

pub next_unescaped-requires : goal.next_unescaped-requires
next_unescaped-requires c = search (writes, rules)

pub put_spelled-next-requires : goal.put_spelled-next-requires
put_spelled-next-requires c = search (writes, rules)

pub loop-b-smaller : goal.loop-b-smaller
loop-b-smaller c = search (writes, rules)

pub loop-b-preserved : goal.loop-b-preserved
loop-b-preserved c = search (writes, rules)

pub returns : goal.returns
returns c = search (writes, rules)
