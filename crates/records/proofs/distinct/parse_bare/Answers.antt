use Rattle.records.proofs.Skims.{bares}
use Rattle.std.proofs.Common.{rules}
use Rattle.records.proofs.distinct.parse_bare.Goals as goal

pub next_byte-requires : goal.next_byte-requires
next_byte-requires c = search (bares, rules)

pub returns-in_default : goal.returns-in_default
returns-in_default c = search (bares, rules)

pub returns-then-b-eq34 : goal.returns-then-b-eq34
returns-then-b-eq34 c = search (bares, rules)

pub parse_raw_string-requires : goal.parse_raw_string-requires
parse_raw_string-requires c = search (bares, rules)

pub returns : goal.returns
returns c = search (bares, rules)
