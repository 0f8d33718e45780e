use Rattle.dictionary.proofs.Slotting.{meets, held_open, named_sole}
use Rattle.std.proofs.Common.{rules}
use Rattle.dictionary.proofs.place.find_earlier.Goals as goal

pub returns-then-k-gt4294967294-clause-earlier : goal.returns-then-k-gt4294967294-clause-earlier
returns-then-k-gt4294967294-clause-earlier c = search (meets, rules)

pub returns-in-Found-clause-ids : goal.returns-in-Found-clause-ids
returns-in-Found-clause-ids c = search (meets, rules)

pub returns-in-Open-clause-ids : goal.returns-in-Open-clause-ids
returns-in-Open-clause-ids c = search (held_open, named_sole)

pub returns-in-Full-clause-earlier : goal.returns-in-Full-clause-earlier
returns-in-Full-clause-earlier c = search (meets, rules)

pub returns-in-Full-clause-ids : goal.returns-in-Full-clause-ids
returns-in-Full-clause-ids c = search (meets, rules)
