use Rattle.values.proofs.Hashes.{wides}
use Rattle.std.proofs.Common.{rules}
use Rattle.values.proofs.hash.wide_from.Goals as goal

pub loop-a-init : goal.loop-a-init
loop-a-init c = search (wides, rules)

pub next_unescaped-requires : goal.next_unescaped-requires
next_unescaped-requires c = search (wides, rules)

pub overflow_cast-a : goal.overflow_cast-a
overflow_cast-a c = search (wides, rules)

pub wide_step-requires : goal.wide_step-requires
wide_step-requires c = search (wides, rules)

pub returns-in_default-next_unescaped : goal.returns-in_default-next_unescaped
returns-in_default-next_unescaped c = search (wides, rules)

pub overflow_mul-a : goal.overflow_mul-a
overflow_mul-a c = search (wides, rules)

pub overflow_cast-b : goal.overflow_cast-b
overflow_cast-b c = search (wides, rules)

pub overflow_add-a : goal.overflow_add-a
overflow_add-a c = search (wides, rules)

pub wide_step-hash-requires : goal.wide_step-hash-requires
wide_step-hash-requires c = search (wides, rules)

pub loop-a-smaller : goal.loop-a-smaller
loop-a-smaller c = search (wides, rules)

pub loop-a-preserved : goal.loop-a-preserved
loop-a-preserved c = search (wides, rules)

pub returns : goal.returns
returns c = search (wides, rules)
