use Rattle.std.proofs.Common.{rules}
use Rattle.house.proofs.Looks.{formings}
use Rattle.house.proofs.keys.are_formed.Goals as goal

pub loop-k-init : goal.loop-k-init
loop-k-init c = search (formings, rules)

pub get-e-requires : goal.get-e-requires
get-e-requires c = search (formings, rules)

pub is_record-requires : goal.is_record-requires
is_record-requires c = search (formings, rules)

pub line_part-requires : goal.line_part-requires
line_part-requires c = search (formings, rules)

pub is_formed-requires : goal.is_formed-requires
is_formed-requires c = search (formings, rules)

pub returns-then-not-is_formed : goal.returns-then-not-is_formed
returns-then-not-is_formed c = search (formings, rules)

pub loop-k-smaller : goal.loop-k-smaller
loop-k-smaller c = search (formings, rules)

pub loop-k-preserved : goal.loop-k-preserved
loop-k-preserved c = search (formings, rules)

pub returns : goal.returns
returns c = search (formings, rules)
