use Rattle.records.proofs.Maps.{afters_field}
use Rattle.std.proofs.Common.{rules}
use Rattle.records.proofs.map.after_field.Goals as goal

pub returns-then-consume_suffix : goal.returns-then-consume_suffix
returns-then-consume_suffix c = search (afters_field, rules)

pub returns-else-consume_suffix : goal.returns-else-consume_suffix
returns-else-consume_suffix c = search (afters_field, rules)

pub returns-in-Some : goal.returns-in-Some
returns-in-Some c = search (afters_field, rules)
