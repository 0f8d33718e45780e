use Rattle.dictionary.proofs.Slotting.{meets}
use Rattle.std.proofs.Common.{rules}
use Rattle.dictionary.proofs.place.is_taken.Goals as goal

pub returns-then-k-gt4294967294-clause-taken : goal.returns-then-k-gt4294967294-clause-taken
returns-then-k-gt4294967294-clause-taken c = search (meets, rules)

pub returns-in-Found-clause-taken : goal.returns-in-Found-clause-taken
returns-in-Found-clause-taken c = search (meets, rules)

pub returns-in-Found-clause-numbers : goal.returns-in-Found-clause-numbers
returns-in-Found-clause-numbers c = search (meets, rules)

pub returns-in-Open-clause-taken : goal.returns-in-Open-clause-taken
returns-in-Open-clause-taken c = search (meets, rules)

pub returns-in-Open-clause-numbers : goal.returns-in-Open-clause-numbers
returns-in-Open-clause-numbers c = search (meets, rules)

pub returns-in-Full-clause-taken : goal.returns-in-Full-clause-taken
returns-in-Full-clause-taken c = search (meets, rules)

pub returns-in-Full-clause-numbers : goal.returns-in-Full-clause-numbers
returns-in-Full-clause-numbers c = search (meets, rules)
