use Rattle.entries.proofs.Plains.{formings}
use Rattle.std.proofs.Common.{rules}
use Rattle.entries.proofs.formed.are_formed.Goals as goal

pub returns-then-are_plain : goal.returns-then-are_plain
returns-then-are_plain c = search (formings, rules)

pub returns-then-not-is_entry : goal.returns-then-not-is_entry
returns-then-not-is_entry c = search (formings, rules)

pub loop-n-preserved : goal.loop-n-preserved
loop-n-preserved c = search (formings, rules)

pub returns : goal.returns
returns c = search (formings, rules)
