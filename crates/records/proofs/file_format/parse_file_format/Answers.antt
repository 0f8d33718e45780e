use Rattle.records.proofs.Formats.{reads}
use Rattle.std.proofs.Common.{rules}
use Rattle.records.proofs.file_format.parse_file_format.Goals as goal

pub returns-then-not-starts_with : goal.returns-then-not-starts_with
returns-then-not-starts_with c = search (reads, rules)

pub returns-then-s-point : goal.returns-then-s-point
returns-then-s-point c = search (reads, rules)

pub returns-in_default : goal.returns-in_default
returns-in_default c = search (reads, rules)

pub returns-in_default-parse_u32 : goal.returns-in_default-parse_u32
returns-in_default-parse_u32 c = search (reads, rules)

pub overflow_cast-major : goal.overflow_cast-major
overflow_cast-major c = search (reads, rules)

pub overflow_cast-minor : goal.overflow_cast-minor
overflow_cast-minor c = search (reads, rules)

pub returns : goal.returns
returns c = search (reads, rules)
