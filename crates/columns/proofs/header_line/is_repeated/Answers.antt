use Rattle.columns.proofs.Names.{repeats}
use Rattle.std.proofs.Common.{rules}
use Rattle.columns.proofs.header_line.is_repeated.Goals as goal

pub returns-then-not-is_met : goal.returns-then-not-is_met
returns-then-not-is_met c = search (repeats, rules)

pub returns-then-not-meet_hash : goal.returns-then-not-meet_hash
returns-then-not-meet_hash c = search (repeats, rules)

pub returns : goal.returns
returns c = search (repeats, rules)
