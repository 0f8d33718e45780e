use Rattle.records.proofs.Keys.{brackets}
use Rattle.std.proofs.Common.{rules}
use Rattle.records.proofs.key.MapKey.has_brackets.Goals as goal

pub is_meta-requires : goal.is_meta-requires
is_meta-requires c = search (brackets, rules)

pub lt-requires : goal.lt-requires
lt-requires c = search (brackets, rules)

pub returns-else-is_meta : goal.returns-else-is_meta
returns-else-is_meta c = search (brackets, rules)

pub returns-then-is_meta : goal.returns-then-is_meta
returns-then-is_meta c = search (brackets, rules)
