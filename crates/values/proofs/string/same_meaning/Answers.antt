use Rattle.std.proofs.Common.{rules}
use Rattle.values.proofs.Meanings.{compares}
use Rattle.values.proofs.string.same_meaning.Goals as goal

pub same-requires : goal.same-requires
same-requires c = search (compares, rules)

pub returns-then-not-bq : goal.returns-then-not-bq
returns-then-not-bq c = search (compares, rules)

pub loop-x-init : goal.loop-x-init
loop-x-init c = search (compares, rules)

pub next_unescaped-requires : goal.next_unescaped-requires
next_unescaped-requires c = search (compares, rules)

pub returns-in_default-next_unescaped : goal.returns-in_default-next_unescaped
returns-in_default-next_unescaped c = search (compares, rules)

pub returns-then-x-y : goal.returns-then-x-y
returns-then-x-y c = search (compares, rules)

pub loop-x-smaller : goal.loop-x-smaller
loop-x-smaller c = search (compares, rules)

pub loop-x-preserved : goal.loop-x-preserved
loop-x-preserved c = search (compares, rules)

pub returns : goal.returns
returns c = search (compares, rules)
