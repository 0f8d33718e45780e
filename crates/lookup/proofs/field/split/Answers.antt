use Rattle.lookup.proofs.Fields.{cuts}
use Rattle.std.proofs.Common.{rules}
use Rattle.lookup.proofs.field.split.Goals as goal

pub overflow_add-key_length : goal.overflow_add-key_length
overflow_add-key_length c = search (cuts, rules)

pub returns-then-value-eq0-clause-cut : goal.returns-then-value-eq0-clause-cut
returns-then-value-eq0-clause-cut c = search (cuts, rules)

pub returns-then-value-eq0-clause-inside : goal.returns-then-value-eq0-clause-inside
returns-then-value-eq0-clause-inside c = search (cuts, rules)

pub returns-clause-cut : goal.returns-clause-cut
returns-clause-cut c = search (cuts, rules)
