use Rattle.records.proofs.Quickly.{plains}
use Rattle.std.proofs.Common.{rules}
use Rattle.records.proofs.quick.plain_field.Goals as goal

pub parse_key-requires : goal.parse_key-requires
parse_key-requires c = search (plains, rules)

pub returns-in_default : goal.returns-in_default
returns-in_default c = search (plains, rules)

pub returns-then-s-start : goal.returns-then-s-start
returns-then-s-start c = search (plains, rules)

pub bounds-s-start : goal.bounds-s-start
bounds-s-start c = search (plains, rules)

pub find_stop-requires : goal.find_stop-requires
find_stop-requires c = search (plains, rules)

pub returns : goal.returns
returns c = search (plains, rules)
