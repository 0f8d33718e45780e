use Rattle.std.proofs.Common.{rules}
use Rattle.header.proofs.Parsers.{ons}
use Rattle.header.proofs.parser.read_on.Goals as goal

pub returns-then-not-fits : goal.returns-then-not-fits
returns-then-not-fits c = search (ons, rules)

pub returns-then-end-from : goal.returns-then-end-from
returns-then-end-from c = search (ons, rules)

pub is_parted-requires : goal.is_parted-requires
is_parted-requires c = search (ons, rules)

pub read_parts-requires : goal.read_parts-requires
read_parts-requires c = c.is_parted.ensures.is c.if-is_parted.true

pub read_part-requires : goal.read_part-requires
read_part-requires c = search (ons, rules)
