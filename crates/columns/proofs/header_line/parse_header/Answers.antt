use Rattle.columns.proofs.Lines.{lines}
use Rattle.std.proofs.Common.{rules}
use Rattle.columns.proofs.header_line.parse_header.Goals as goal

pub returns-then-not-starts_with : goal.returns-then-not-starts_with
returns-then-not-starts_with c = search (lines, rules)

pub returns-then-rest-eq0 : goal.returns-then-rest-eq0
returns-then-rest-eq0 c = search (lines, rules)

pub returns-then-same : goal.returns-then-same
returns-then-same c = search (lines, rules)

pub returns-then-not-starts_with-2 : goal.returns-then-not-starts_with-2
returns-then-not-starts_with-2 c = search (lines, rules)

pub returns : goal.returns
returns c = search (lines, rules)
