use Rattle.header.proofs.Parsers.{reads}
use Rattle.std.proofs.Common.{rules}
use Rattle.header.proofs.parser.read.Goals as goal

pub limits-limits-requires : goal.limits-limits-requires
limits-limits-requires c = search (reads, rules)

pub refuse-requires : goal.refuse-requires
refuse-requires c = search (reads, rules)

pub returns-then-limits-header : goal.returns-then-limits-header
returns-then-limits-header c = search (reads, rules)

pub new-requires : goal.new-requires
new-requires c = search (reads, rules)

pub read_on-requires : goal.read_on-requires
read_on-requires c = search (reads, rules)

pub finish-requires : goal.finish-requires
finish-requires c = search (reads, rules)

pub overflow_add-parser : goal.overflow_add-parser
overflow_add-parser c = search (reads, rules)

pub returns-in-Ok : goal.returns-in-Ok
returns-in-Ok c = search (reads, rules)

pub returns-in-Err : goal.returns-in-Err
returns-in-Err c = search (reads, rules)
